use Rattle.std.proofs.Common.{◌≡◌, ◌++◌, map}
use Rattle.cluster_state.specs.Snapshot.{number_of}
use Rattle.cluster_state.specs.Ends.{by_end}
use Rattle.cluster_state.proofs.snapshot.listed.Given as goal

abbrev pub invariant-loop-r : goal.invariant-loop-r
invariant-loop-r g l = l.numbers.items ++ map number_of l.r-iterator ≡ map number_of (by_end l.running.running)
