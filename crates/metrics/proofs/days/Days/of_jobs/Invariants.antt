use Rattle.std.proofs.Common.{take}
use Rattle.metrics.specs.Days.{AreFallsOf}
use Rattle.metrics.proofs.days.Days.of_jobs.Given as goal

abbrev pub invariant-loop-each : goal.invariant-loop-each
invariant-loop-each g l = AreFallsOf (take l.each-index l.placed) l.starts.items l.ends.items
