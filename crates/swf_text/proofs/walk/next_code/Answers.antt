use Rattle.std.proofs.Common.{ap, ◌∙◌}
use Rattle.swf_text.specs.Line.{from_first}
use Rattle.swf_text.proofs.Walks.{next_behind, next_ended, front_twice}
use Rattle.swf_text.proofs.walk.next_code.Goals as goal

pub returns-in-Some : goal.returns-in-Some
returns-in-Some c = next_behind c.args.bytes.now c.loop-word.rest.now _ _ c.loop-word.invariant (next_ended _ _ _ c.in-Some.ensures)

pub loop-word-preserved : goal.loop-word-preserved
loop-word-preserved c = ap from_first c.from_first-front.ensures ∙ front_twice c.loop-word.rest.now ∙ c.loop-word.invariant
