use Rattle.std.proofs.Common.{◌≡◌, sum_by, take}
use Rattle.cluster_state.specs.State.{back_by}
use Rattle.oracle_runs.proofs.state.all_back_by.Given as goal

abbrev pub invariant-loop-r : goal.invariant-loop-r
invariant-loop-r l = l.sum ≡ sum_by (back_by l.t) (take l.r-index l.running)
