use Rattle.std.proofs.Common.{◌↔◌, IsSome, All}
use Rattle.scenarios.specs.Plan.{job_numbered}
use Rattle.scenarios.specs.PlanView.{plan_in}
use Rattle.cluster_state.proofs.lookup.have_jobs.Given as goal

abbrev pub invariant-loop-number : goal.invariant-loop-number
invariant-loop-number g l = All (λ n. IsSome (job_numbered ((plan_in l.plan).jobs) n)) l.number-iterator ↔ All (λ n. IsSome (job_numbered ((plan_in l.plan).jobs) n)) l.fn.numbers
