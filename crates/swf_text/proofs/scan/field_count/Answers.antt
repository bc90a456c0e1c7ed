use Rattle.std.proofs.Common.{◌<◌, length, sym, arith, false-eqb}
use Rattle.std.proofs.lemmas.Bool.{eqb-true}
use Rattle.swf_text.proofs.Words.{count_kept, count_is, after_shorter}
use Rattle.swf_text.proofs.scan.field_count.Goals as goal
use Rattle.swf_text.proofs.scan.field_count.Goals.{Else-is_empty}

some : (c : Else-is_empty) → 0 < length c.next_word.result.0.now
some c = omega (arith, false-eqb _ 0 c.if-is_empty.ensures)

pub returns-then-is_empty : goal.returns-then-is_empty
returns-then-is_empty c = count_is c.args.line.now c.loop-after.rest.now _ c.loop-after.count c.loop-after.invariant.counted c.next_word.ensures.word (eqb-true _ 0 (sym c.if-is_empty.ensures))

pub overflow_add-count : goal.overflow_add-count
overflow_add-count c =
    let kept = count_kept c.args.line.now c.loop-after.rest.now _ _ c.loop-after.count c.loop-after.invariant.counted c.loop-after.invariant.within c.next_word.ensures.word c.next_word.ensures.rest (some c) in
    omega arith

pub loop-after-preserved : goal.loop-after-preserved
loop-after-preserved c = count_kept c.args.line.now c.loop-after.rest.now _ _ c.loop-after.count c.loop-after.invariant.counted c.loop-after.invariant.within c.next_word.ensures.word c.next_word.ensures.rest (some c)

pub loop-after-smaller : goal.loop-after-smaller
loop-after-smaller c = after_shorter c.loop-after.rest.now _ _ c.next_word.ensures.word c.next_word.ensures.rest (some c)
