-- What callers see of an event second that was worked.
use Rattle.std.specs.Prelude.{◌≡◌, ℕ, List, All, Some, map}
use Rattle.scenarios.specs.Job.{EffectiveJob}
use Rattle.scenarios.specs.Plan.{Plan, job_numbered}
use Rattle.easy_rule.specs.declared.start.Start.{Start}
use Rattle.easy_rule.specs.Pass.{start_at}
use Rattle.easy_rule.specs.Simulation.{starts_in}

pub record SteppedSecond : Type 0 where
  pub second : ℕ
  pub starts : List Start

-- these jobs start at second t of the plan, in this order, each of them the plan's job of its number
pub record StartIn (plan : Plan) (t : ℕ) (jobs : List EffectiveJob) : Type 0 where
  pub starts : map (start_at t) jobs ≡ starts_in plan t
  pub own : All (λ j. job_numbered plan.jobs j.number ≡ Some j) jobs
