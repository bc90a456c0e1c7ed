use Rattle.std.proofs.Common.{sym, ◌∙◌, arith}
use Rattle.swf_text.proofs.Words.{step_kept, stop_is, end_is}
use Rattle.swf_text.proofs.scan.values_of.Goals as goal

pub returns-in-None : goal.returns-in-None
returns-in-None c = stop_is c.args.line.now c.loop-place.values c.loop-place.place c.loop-place.rest.now _ c.loop-place.invariant.left (omega arith) c.loop-place.invariant.read c.next_word.ensures.word (sym c.number.ensures ∙ c.in-None.is)

pub loop-place-preserved : goal.loop-place-preserved
loop-place-preserved c = step_kept c.args.line.now c.loop-place.values c.loop-place.place c.loop-place.rest.now _ _ c.in-Some.value c.loop-place.invariant.sized c.loop-place.invariant.left (omega arith) c.loop-place.invariant.read c.next_word.ensures.word c.next_word.ensures.rest (sym c.number.ensures ∙ c.in-Some.is)

pub returns : goal.returns
returns c = end_is c.args.line.now c.loop-place.values c.loop-place.place c.loop-place.rest.now c.loop-place.invariant.sized c.loop-place.invariant.left (omega arith) c.loop-place.invariant.read
