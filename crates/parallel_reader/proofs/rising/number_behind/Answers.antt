use Rattle.std.proofs.Common.{arith}
use Rattle.parallel_reader.proofs.Jobs.{below_all}
use Rattle.parallel_reader.proofs.rising.number_behind.Goals as goal

pub returns : goal.returns
returns g c = below_all c.loop-entry.next c.args.entries.now c.loop-entry.entry-index (omega (arith, c.loop-entry-test.false)) c.loop-entry.invariant
