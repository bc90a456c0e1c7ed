use Rattle.std.proofs.Common.{arith, sym}
use Rattle.std.proofs.lemmas.List.Sums.{position_or_len_is}
use Rattle.swf_text.specs.Line.{is_blank}
use Rattle.swf_text.proofs.scan.word_len.Goals as goal

pub returns-then-is_blank-clause-value : goal.returns-then-is_blank-clause-value
returns-then-is_blank-clause-value c = sym (position_or_len_is is_blank c.args.bytes.now c.loop-place.place 0 (omega arith) c.loop-place.invariant (λ lt. sym c.if-is_blank.ensures))

pub returns-clause-value : goal.returns-clause-value
returns-clause-value c = sym (position_or_len_is is_blank c.args.bytes.now _ 0 (omega arith) (λ k lt. c.loop-place.invariant k (omega arith)) (λ lt. absurd (omega arith)))
