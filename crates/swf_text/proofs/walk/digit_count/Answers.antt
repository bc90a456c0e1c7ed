use Rattle.std.proofs.Common.{arith, sym}
use Rattle.std.proofs.lemmas.List.Sums.{prefix_len_is}
use Rattle.std.specs.Char.{is_ascii_digit}
use Rattle.swf_text.proofs.walk.digit_count.Goals as goal

pub returns-then-not-is_ascii_digit-clause-value : goal.returns-then-not-is_ascii_digit-clause-value
returns-then-not-is_ascii_digit-clause-value c = sym (prefix_len_is is_ascii_digit c.args.bytes.now c.loop-place.place 0 (omega arith) c.loop-place.invariant.each (λ lt. sym c.if-not-is_ascii_digit.ensures.value))

pub returns-clause-value : goal.returns-clause-value
returns-clause-value c = sym (prefix_len_is is_ascii_digit c.args.bytes.now _ 0 (omega arith) (λ k lt. c.loop-place.invariant.each k (omega arith)) (λ lt. absurd (omega arith)))
