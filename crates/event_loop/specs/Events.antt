-- The event seconds of a plan, and what an engine holds.
use Rattle.std.specs.Prelude.{◌≡◌, ◌⊎◌, List, false, true, ℕ, zero, suc, ◌+◌, ◌≤◌, min, nat_eq, nat_lt, Bool, if◌then◌else◌, length, count_by, Option, Some, None, IfSome}
use Rattle.scenarios.specs.Plan.{Plan}
use Rattle.scenarios.specs.declared.placed.Placed.{Placed}
use Rattle.scenarios.specs.Placed.{real_end}
use Rattle.cluster_state.specs.State.{State, ended_until}
use Rattle.easy_rule.specs.declared.shadow_time.Shadow.{Shadow}
use Rattle.easy_rule.specs.Rule.{shadow_of}
use Rattle.easy_rule.specs.Simulation.{IsEvent, before, submitted}
use Rattle.scenarios.specs.SoundPlan.{IsPlan}
use Rattle.timeline.specs.Laws.{IsQuiet}
use Rattle.event_loop.specs.Upcoming.{NextJobs, IsUpcoming}

-- the next event second, from a position on
abbrev pub IsNextEvent : Plan → ℕ → Option ℕ → Type 0
IsNextEvent plan position None = (t : ℕ) → position ≤ t → IsEvent plan t → ⊥
IsNextEvent plan position (Some t) = (position ≤ t) × IsEvent plan t × IsQuiet plan position t

-- whether t is an event second: how many are submitted or end then is not 0
abbrev pub has_event : Plan → ℕ → Bool
has_event plan t = nat_lt 0 (length (submitted plan t) + count_by (λ r. nat_eq (real_end r) t) (before plan t).running)

-- how many event seconds lie before t
unfoldable pub events_before : Plan → ℕ → ℕ
events_before plan zero = 0
events_before plan (suc t) = events_before plan t + (if has_event plan t then 1 else 0)

-- What callers see of an engine: what it simulates, the second before which it stands, the event seconds that it worked, and whether it ran out of memory.
pub record Progress : Type 0 where
  pub plan : Plan
  pub position : ℕ
  pub handled : ℕ
  pub failed : Bool

-- an engine before a second, which has worked none
abbrev pub begun : Plan → ℕ → Progress
begun plan position = record { plan = plan; position = position; handled = 0; failed = false }

-- who runs where an engine has failed: those who ran before its position, or at work on the next event second those of
-- them who don't end by it. So an engine that has failed can't stand before a second that it has worked
abbrev pub IsMidway : Plan → ℕ → List Placed → Type 0
IsMidway plan position running =
    (running ≡ (before plan position).running) ⊎ ((t : ℕ) × IsNextEvent plan position (Some t) × (running ≡ (ended_until (before plan position) t).running))

-- what the fields keep: unless the engine failed, its state is the model's, it knows which jobs come next, and a shadow that it knows is the state's;
-- where it failed, who runs tells how far it came
pub record IsEngine (plan : Plan) (state : State) (upcoming : NextJobs) (last_shadow : Option Shadow) (position handled : ℕ) (failed : Bool) : Type 0 where
  pub is_plan : IsPlan plan
  pub counted : handled ≤ position
  pub state_is : failed ≡ false → state ≡ before plan position
  pub upcoming_is : failed ≡ false → IsUpcoming upcoming position plan.jobs
  pub last_shadow_is : failed ≡ false → IfSome last_shadow (λ w. shadow_of state ≡ Some w)
  pub failed_is : failed ≡ true → IsMidway plan position state.running

-- the earlier of two seconds that may be missing
abbrev pub earlier : Option ℕ → Option ℕ → Option ℕ
earlier None b = b
earlier (Some a) None = Some a
earlier (Some a) (Some b) = Some (min a b)
