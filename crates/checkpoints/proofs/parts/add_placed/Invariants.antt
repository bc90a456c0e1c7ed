use Rattle.std.proofs.Common.{◌≡◌, ◌++◌, map, take}
use Rattle.checkpoints.proofs.Placing.{placed_from}
use Rattle.checkpoints.proofs.parts.add_placed.Given as goal

abbrev pub invariant-loop-job : goal.invariant-loop-job
invariant-loop-job g l = l.placed.items ≡ l.fn.placed.items ++ map (placed_from l.second) (take l.job-index l.jobs)
