use Rattle.std.proofs.Common.{◌≡◌, ◌++◌, All}
use Rattle.std.specs.List.{filter_map}
use Rattle.scenarios.specs.Job.{IsWithinLimits}
use Rattle.scenarios.specs.PlanView.{plan_in}
use Rattle.cluster_state.specs.Snapshot.{running_numbered}
use Rattle.cluster_state.proofs.lookup.running_in.Given as goal

abbrev pub invariant-loop-r : goal.invariant-loop-r
invariant-loop-r g l = record {
  jobs : l.jobs.items ++ filter_map (running_numbered ((plan_in l.plan).jobs)) l.r-iterator ≡ filter_map (running_numbered ((plan_in l.plan).jobs)) l.fn.running;
  limits : All (λ r. IsWithinLimits r.job) l.jobs.items;
}
