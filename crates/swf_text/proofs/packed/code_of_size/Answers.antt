use Rattle.std.proofs.Common.{◌+◌, ◌/◌, arith, sym}
use Rattle.swf_text.proofs.Codes.{low_code, high_code}
use Rattle.swf_text.proofs.packed.code_of_size.Goals as goal

pub returns-then-whole-lt-HUNDREDTHS : goal.returns-then-whole-lt-HUNDREDTHS
returns-then-whole-lt-HUNDREDTHS c = sym (low_code (c.args.millionths / 1000000 + 1) c.args.millionths (omega arith) (omega (arith, c.if-whole-lt-HUNDREDTHS.true)) (omega (arith, c.if-whole-millionths.true)))

pub returns-then-hundredths-from : goal.returns-then-hundredths-from
returns-then-hundredths-from c = sym (high_code (4000000000 + c.args.millionths / 10000) c.args.millionths (omega arith) (omega (arith, c.if-hundredths-millionths.true)))
