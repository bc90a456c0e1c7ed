use Rattle.std.proofs.Common.{arith}
use Rattle.swf_text.proofs.Tens.{below}
use Rattle.swf_text.proofs.walk.leading_digits.Goals as goal

pub returns-then-not-is_ascii_digit-clause-limit :
    goal.returns-then-not-is_ascii_digit-clause-limit
returns-then-not-is_ascii_digit-clause-limit c = below c.loop-place.value c.loop-place.place c.min.result c.args.bytes.now c.min.ensures (omega (arith, c.loop-place.auto.place-end)) c.loop-place.invariant.small

pub overflow_mul-value : goal.overflow_mul-value
overflow_mul-value c = omega (arith, below c.loop-place.value c.loop-place.place c.min.result c.args.bytes.now c.min.ensures (omega (arith, c.loop-place.auto.place-end)) c.loop-place.invariant.small)

pub overflow_add-value : goal.overflow_add-value
overflow_add-value c = omega (arith, below c.loop-place.value c.loop-place.place c.min.result c.args.bytes.now c.min.ensures (omega (arith, c.loop-place.auto.place-end)) c.loop-place.invariant.small)

pub returns-clause-limit : goal.returns-clause-limit
returns-clause-limit c = below c.loop-place.value c.loop-place.place c.min.result c.args.bytes.now c.min.ensures (omega (arith, c.loop-place.auto.place-end)) c.loop-place.invariant.small
