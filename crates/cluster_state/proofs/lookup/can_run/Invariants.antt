use Rattle.std.proofs.Common.{◌↔◌}
use Rattle.scenarios.specs.PlanView.{plan_in}
use Rattle.cluster_state.proofs.LookupLemmas.{CanRun}
use Rattle.cluster_state.proofs.lookup.can_run.Given as goal

abbrev pub invariant-loop-r : goal.invariant-loop-r
invariant-loop-r g l = CanRun ((plan_in l.plan).jobs) l.r-iterator l.left ↔ CanRun ((plan_in l.plan).jobs) l.fn.running l.plan.scenario.procs
