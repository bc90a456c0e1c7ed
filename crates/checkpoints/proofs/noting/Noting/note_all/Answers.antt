use Rattle.std.proofs.Common.{List, ap, ◌∙◌}
use Rattle.std.specs.Option.{option_or}
use Rattle.std.proofs.lemmas.List.{get_or_default, take_all}
use Rattle.easy_rule.specs.declared.start.Start.{Start}
use Rattle.easy_rule.specs.Simulation.{start_of}
use Rattle.checkpoints.specs.Starts.{known_start}
use Rattle.checkpoints.proofs.Known.{noted-none, noted-more}
use Rattle.checkpoints.proofs.noting.Noting.note_all.Goals as goal

pub loop-start-init : goal.loop-start-init
loop-start-init g c = λ n. noted-none _

pub loop-start-preserved : goal.loop-start-preserved
loop-start-preserved g c = λ n. noted-more n c.loop-start.start-index c.args.starts.now _ _ _ _ c.loop-start-test.true (get_or_default c.args.starts.now c.loop-start.start-index _ _ c.loop-start-test.true) (c.loop-start.invariant n) (c.in_ok-note.ensures n)

pub returns : goal.returns
returns g c = λ n. c.loop-start.invariant n ∙ ap (λ (xs : List Start). option_or (known_start c.args.self.now n) (start_of xs n)) (take_all c.loop-start.start-index c.args.starts.now c.loop-start-test.false)
