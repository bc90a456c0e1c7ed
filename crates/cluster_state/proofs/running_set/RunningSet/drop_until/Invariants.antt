use Rattle.std.proofs.Common.{◌≡◌, ◌+◌, ◌≤◌, filter, length, nat_lt}
use Rattle.scenarios.specs.declared.placed.Placed.{Placed}
use Rattle.scenarios.specs.Placed.{real_end}
use Rattle.cluster_state.specs.State.{busy}
use Rattle.cluster_state.proofs.running_set.RunningSet.drop_until.Given as goal

abbrev pub invariant-ends : goal.invariant-ends
invariant-ends g l = record {
  left : filter (λ (r : Placed). nat_lt l.t (real_end r)) l.self.running ≡ filter (λ (r : Placed). nat_lt l.t (real_end r)) l.fn.self.running;
  freed : l.freed + busy l.self.running ≡ busy l.fn.self.running;
  spare : l.fn.self.spare ≤ l.self.spare;
}

abbrev pub decreases-ends : goal.decreases-ends
decreases-ends g l = length l.self.running
