-- The state before a second, by submit seconds and starts alone.
use Rattle.std.specs.Prelude.{◌≡◌, ℕ, ◌+◌, ◌≤◌, ◌<◌, ◌↔◌, Bool, ◌&&◌, nat_le, nat_lt, is_none, if◌then◌else◌, filter, filter_map, Option, Some, None, IfSome, IsSomeAnd}
use Rattle.scenarios.specs.Job.{EffectiveJob}
use Rattle.scenarios.specs.Plan.{Plan, job_numbered}
use Rattle.scenarios.specs.SoundPlan.{IsPlan}
use Rattle.scenarios.specs.declared.placed.Placed.{Placed}
use Rattle.cluster_state.specs.State.{State}
use Rattle.cluster_state.specs.Ends.{by_number}
use Rattle.cluster_state.specs.Snapshot.{numbers_of, standing}
use Rattle.easy_rule.specs.Simulation.{before, starts_before, sim, start_of}

-- the second at which the job of this number starts, where that comes before second t
abbrev pub known_start : Plan → ℕ → ℕ → Option ℕ
known_start plan t number = start_of (starts_before plan t) number

-- the job waits before second t: it is submitted before it, and has no start before it
abbrev pub waits_before : Plan → ℕ → EffectiveJob → Bool
waits_before plan t job = is_none (known_start plan t job.number) && nat_lt job.submit t

-- the job with its start, if it has one and ends at second t or later
abbrev pub lasting : ℕ → EffectiveJob → Option ℕ → Option Placed
lasting t job None = None
lasting t job (Some start) = if nat_le t (start + job.length) then Some (record { job = job; start = start }) else None

-- the job with its start, if it runs before second t: it has started before it, and ends at it or later
abbrev pub runs_before : Plan → ℕ → EffectiveJob → Option Placed
runs_before plan t job = lasting t job (known_start plan t job.number)

-- of the plan's jobs those that wait before second t, in the order of the log, which is that of arrival; and those that run
-- before it, with their starts, rising by number
abbrev pub state_by_starts : Plan → ℕ → State
state_by_starts plan t = record {
  procs = plan.procs;
  order = plan.order;
  waiting = filter (waits_before plan t) plan.jobs;
  running = by_number (filter_map (runs_before plan t) plan.jobs);
}

-- the state before each second is this one
abbrev pub StatesFollowFromStarts : Type 0
StatesFollowFromStarts = (plan : Plan) (t : ℕ) → IsPlan plan → before plan t ≡ state_by_starts plan t

-- a start that comes before second t is the job's start in the whole simulation
abbrev pub StartsAreFinal : Type 0
StartsAreFinal = (plan : Plan) (t number start : ℕ) → IsPlan plan → (known_start plan t number ≡ Some start) ↔ ((start_of (sim plan) number ≡ Some start) × (start < t))

-- a number waits or runs before second t where, and only where, its job is submitted before t and has not ended before it
abbrev pub NumbersStandUntilTheyEnd : Type 0
NumbersStandUntilTheyEnd =
    (plan : Plan) (t number : ℕ) → IsPlan plan
    → (1 ≤ standing (numbers_of (before plan t)) number) ↔ IsSomeAnd (job_numbered plan.jobs number) (λ job. (job.submit < t) × IfSome (known_start plan t number) (λ start. t ≤ start + job.length))
