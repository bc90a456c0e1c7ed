use Rattle.scenarios.specs.PlanView.{plan_in}
use Rattle.cluster_state.proofs.LookupLemmas.{IsRestoring}
use Rattle.cluster_state.proofs.cluster.Cluster.restore.Given as goal

abbrev pub invariant-loop-number : goal.invariant-loop-number
invariant-loop-number g l = IsRestoring l.snapshot (plan_in l.plan) l.number-iterator l.cluster.state
