use Rattle.std.proofs.Common.{◌≡◌}
use Rattle.easy_rule.specs.Simulation.{before, starts_before}
use Rattle.oracle_runs.proofs.simulation.simulate.Given as goal

abbrev pub invariant-loop-t : goal.invariant-loop-t
invariant-loop-t g l = record {
  state : l.state ≡ before l.plan l.t;
  starts : l.starts.items ≡ starts_before l.plan l.t;
}
