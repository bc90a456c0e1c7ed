-- What a second does with a state.
use Rattle.std.specs.Prelude.{◌≡◌, ℕ, List, length, map, Option, IfSome}
use Rattle.scenarios.specs.Job.{EffectiveJob}
use Rattle.scenarios.specs.Plan.{Plan}
use Rattle.cluster_state.specs.State.{State, IsSound}
use Rattle.easy_rule.specs.declared.shadow_time.Shadow.{Shadow}
use Rattle.easy_rule.specs.Rule.{state_after, starts_at}
use Rattle.easy_rule.specs.Pass.{start_at, AreStarted}
use Rattle.easy_rule.specs.Decision.{IsSettledFront}
use Rattle.easy_rule.specs.Simulation.{joined, submitted}
use Rattle.event_loop.specs.Upcoming.{NextJobs, IsUpcoming}

-- A second of a plan, of a state whose ended jobs have left: these jobs come next, those that are submitted at it can
-- join the queue, and by a shadow that is known none of those who wait before them may start.
pub record IsDue (plan : Plan) (second : ℕ) (state : State) (upcoming : NextJobs) (last_shadow : Option Shadow) : Type 0 where
  pub next : IsUpcoming upcoming second plan.jobs
  pub sound : IsSound (joined state (submitted plan second))
  pub settled : IfSome last_shadow (λ w. IsSettledFront (joined state (submitted plan second)) second (length state.waiting) w)

-- of a state at second `now` these jobs are all that start, in order, and they leave this one
pub record IsDecided (ready : State) (now : ℕ) (jobs : List EffectiveJob) (left : State) : Type 0 where
  pub state : left ≡ state_after ready now
  pub starts : map (start_at now) jobs ≡ starts_at ready now
  pub started : AreStarted ready now jobs left
