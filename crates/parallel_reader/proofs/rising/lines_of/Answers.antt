use Rattle.std.proofs.Common.{arith}
use Rattle.parallel_reader.proofs.Jobs.{counted_all}
use Rattle.parallel_reader.proofs.rising.lines_of.Goals as goal

pub returns : goal.returns
returns c = counted_all c.args.jobs.now c.loop-portion.portion-index c.loop-portion.lines (omega (arith, c.loop-portion-test.false)) c.loop-portion.invariant
