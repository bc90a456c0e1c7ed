use Rattle.std.proofs.Common.{take}
use Rattle.parallel_reader.specs.Jobs.{Below}
use Rattle.parallel_reader.proofs.rising.number_behind.Given as goal

abbrev pub invariant-loop-entry : goal.invariant-loop-entry
invariant-loop-entry g l = Below l.next (take l.entry-index l.entries)
