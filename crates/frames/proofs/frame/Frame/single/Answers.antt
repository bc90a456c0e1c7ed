use Rattle.std.proofs.Common.{◌∙◌, ap, map}
use Rattle.std.proofs.lemmas.List.{take_all}
use Rattle.frames.specs.Frames.{once, standing_at}
use Rattle.frames.proofs.Splits.{alone_first, alone_later}
use Rattle.frames.proofs.frame.Frame.single.Goals as goal

pub returns-clause-first : goal.returns-clause-first
returns-clause-first g c =
    ap (standing_at 0) (c.of.ensures ∙ c.loop-item.invariant ∙ ap (map once) (take_all c.loop-item.item-index c.args.items.now c.loop-item-test.false)) ∙ alone_first c.args.items.now

pub returns-clause-others : goal.returns-clause-others
returns-clause-others g c = λ place l.
    ap (standing_at place) (c.of.ensures ∙ c.loop-item.invariant ∙ ap (map once) (take_all c.loop-item.item-index c.args.items.now c.loop-item-test.false)) ∙ alone_later place c.args.items.now l
