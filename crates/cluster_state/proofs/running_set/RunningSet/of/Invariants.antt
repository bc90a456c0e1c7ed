use Rattle.std.proofs.Common.{◌≡◌, ◌+◌, ◌≤◌, take, length}
use Rattle.cluster_state.proofs.running_set.RunningSet.of.Given as goal

abbrev pub invariant-loop-r : goal.invariant-loop-r
invariant-loop-r g l = record {
  running : l.set.running ≡ take l.r-index l.running;
  spare : length l.running ≤ l.set.spare + l.r-index;
}
