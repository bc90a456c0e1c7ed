use Rattle.std.proofs.Common.{◌≤◌, take, All}
use Rattle.scenarios.specs.Placed.{expected_end}
use Rattle.cluster_state.specs.State.{available}
use Rattle.easy_rule.specs.Rule.{shadow_time}
use Rattle.oracle_runs.proofs.rule.shadow_time.Given as goal

abbrev pub invariant-loop-r : goal.invariant-loop-r
invariant-loop-r g l = record {
  low : shadow_time l.state l.need ≤ l.time;
  seen : All (λ r. l.need ≤ available l.state (expected_end r) → l.time ≤ expected_end r) (take l.r-index l.r-items);
}
