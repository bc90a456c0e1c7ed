use Rattle.std.proofs.Common.{arith, ◌∙◌, ap, sym}
use Rattle.swf_text.specs.Packed.{value_of}
use Rattle.swf_text.proofs.Codes.{low_code, high_code}
use Rattle.swf_text.proofs.packed.value_of.Goals as goal

pub returns-then-code-eq-UNKNOWN : goal.returns-then-code-eq-UNKNOWN
returns-then-code-eq-UNKNOWN c = c.signed_value.ensures ∙ ap value_of (sym c.if-code-eq-UNKNOWN.true)

pub returns-then-code-lt-HUNDREDTHS : goal.returns-then-code-lt-HUNDREDTHS
returns-then-code-lt-HUNDREDTHS c = c.signed_value-then-code-lt-HUNDREDTHS.ensures ∙ low_code c.args.code _ (omega (arith, c.if-code-eq-UNKNOWN.false)) (omega (arith, c.from-code.ensures, c.if-code-lt-HUNDREDTHS.true)) (omega (arith, c.from-code.ensures))

pub returns-else-code-lt-HUNDREDTHS : goal.returns-else-code-lt-HUNDREDTHS
returns-else-code-lt-HUNDREDTHS c = c.signed_value-else-code-lt-HUNDREDTHS.ensures ∙ high_code c.args.code _ (omega (arith, c.from-code.ensures, c.if-code-lt-HUNDREDTHS.false)) (omega (arith, c.from-code.ensures))
