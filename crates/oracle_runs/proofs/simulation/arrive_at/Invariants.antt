use Rattle.std.proofs.Common.{◌≡◌, nat_eq, filter, take}
use Rattle.easy_rule.specs.Simulation.{joined}
use Rattle.oracle_runs.proofs.simulation.arrive_at.Given as goal

abbrev pub invariant-loop-job : goal.invariant-loop-job
invariant-loop-job g l = l.state ≡ joined l.fn.state (filter (λ j. nat_eq j.submit l.t) (take l.job-index l.jobs))
