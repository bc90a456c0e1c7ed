-- Among rising seconds, the places before whose seconds a job waits, and those before whose seconds it runs.
use Rattle.std.specs.Prelude.{◌≡◌, ℕ, ◌+◌, ◌≤◌, ◌&&◌, nat_le, nat_lt, if◌then◌else◌, List, ◌++◌, length, map, filter, filter_map, count_by, slice_get, Option, Some, None}
use Rattle.std.specs.List.Sorted.{IsNonDecreasing}
use Rattle.std.specs.Option.{option_map}
use Rattle.frames.specs.Frames.{by_key, standing_at, stands}
use Rattle.frames.specs.declared.stretch.Stretch.{Stretch}
use Rattle.scenarios.specs.Job.{EffectiveJob}
use Rattle.scenarios.specs.Plan.{Plan, job_numbered}
use Rattle.scenarios.specs.SoundPlan.{IsPlan}
use Rattle.scenarios.specs.declared.placed.Placed.{Placed}
use Rattle.cluster_state.specs.declared.snapshot.RunningNumber.{RunningNumber}
use Rattle.cluster_state.specs.Snapshot.{Numbers, number_of, numbers_of}
use Rattle.easy_rule.specs.declared.start.Start.{Start}
use Rattle.easy_rule.specs.Simulation.{before, sim, start_of, starts_before}
use Rattle.timeline.specs.Closed.{known_start}

-- how many of these seconds come no later than second t: where they rise, the place of the first that comes later
abbrev pub place_after : List ℕ → ℕ → ℕ
place_after seconds t = count_by (λ second. nat_le second t) seconds

-- the number waits from the first second behind its submit second on, until the first behind its start, or to the last
abbrev pub waiting_stretch : List ℕ → EffectiveJob → Option ℕ → Stretch ℕ
waiting_stretch seconds job None = record { item = job.number; from = place_after seconds job.submit; to = length seconds }
waiting_stretch seconds job (Some start) = record { item = job.number; from = place_after seconds job.submit; to = place_after seconds start }

-- it runs from the first second behind its start on, until the first behind its end
abbrev pub running_stretch : List ℕ → EffectiveJob → Option ℕ → Option (Stretch RunningNumber)
running_stretch seconds job None = None
running_stretch seconds job (Some start) =
    Some (record { item = record { number = job.number; start = start }; from = place_after seconds start; to = place_after seconds (start + job.length) })

-- the places at which a job of this start runs
abbrev pub placed_stretch : List ℕ → Placed → Stretch RunningNumber
placed_stretch seconds p = record { item = number_of p; from = place_after seconds p.start; to = place_after seconds (p.start + p.job.length) }

-- what stands there of a stretch, if there is one
abbrev pub standing_in : {X : Type 0} → ℕ → Option (Stretch X) → Option X
standing_in place None = None
standing_in place (Some s) = if stands place s then Some s.item else None

-- the start, where it comes before second t
abbrev pub start_by : ℕ → Option ℕ → Option ℕ
start_by t None = None
start_by t (Some start) = if nat_lt start t then Some start else None

-- this start tells whether the number has started before second t, and when
abbrev pub TellsStart : Plan → ℕ → ℕ → Option ℕ → Type 0
TellsStart plan t number start = known_start plan t number ≡ start_by t start

-- the start of each number tells it
abbrev pub TellStarts : Plan → ℕ → (ℕ → Option ℕ) → Type 0
TellStarts plan t start = (number : ℕ) → TellsStart plan t number (start number)

-- the starts of the whole simulation tell it of each second
abbrev pub AllStartsTell : Type 0
AllStartsTell = (plan : Plan) (t : ℕ) → IsPlan plan → TellStarts plan t (start_of (sim plan))

-- and so do the starts before a second, of that second and of each earlier one
abbrev pub LaterStartsTell : Type 0
LaterStartsTell = (plan : Plan) (t u : ℕ) → t ≤ u → TellStarts plan t (start_of (starts_before plan u))

-- the stretches of these jobs, where each number has this start or none: those at which they wait, and those at which they run
abbrev pub waiting_stretches : List ℕ → List EffectiveJob → (ℕ → Option ℕ) → List (Stretch ℕ)
waiting_stretches seconds jobs start = map (λ job. waiting_stretch seconds job (start job.number)) jobs

abbrev pub running_stretches : List ℕ → List EffectiveJob → (ℕ → Option ℕ) → List (Stretch RunningNumber)
running_stretches seconds jobs start = filter_map (λ job. running_stretch seconds job (start job.number)) jobs

-- the numbers that stand at a place of these stretches: the waiting ones in the order of the jobs, the running ones by number
abbrev pub numbers_at : ℕ → List (Stretch ℕ) → List (Stretch RunningNumber) → Numbers
numbers_at place waiting running = record {
  waiting = standing_at place waiting;
  running = by_key (λ (r : RunningNumber). r.number) (standing_at place running);
}

-- the numbers of the state before each of these seconds are those that stand at its place of the stretches of the plan's jobs
abbrev pub StatesStandInStretches : Type 0
StatesStandInStretches =
    (plan : Plan) (seconds : List ℕ) (start : ℕ → Option ℕ) (place t : ℕ) → IsPlan plan → IsNonDecreasing seconds → slice_get seconds place ≡ Some t → TellStarts plan t start
    → numbers_of (before plan t) ≡ numbers_at place (waiting_stretches seconds plan.jobs start) (running_stretches seconds plan.jobs start)

-- the jobs that are submitted from second a on and before second u, in the order of the log
abbrev pub coming_between : List EffectiveJob → ℕ → ℕ → List EffectiveJob
coming_between jobs a u = filter (λ j. nat_le a j.submit && nat_lt j.submit u) jobs

-- the jobs of these starts, with their seconds
abbrev pub started_of : List EffectiveJob → List Start → List Placed
started_of jobs starts = filter_map (λ x. option_map (λ job. record { job = job; start = x.at }) (job_numbered jobs x.number)) starts

-- from second a up to second u, of the jobs that wait before a and those that come there, with the starts that are made there,
-- the waiting numbers of the state before each second are those that stand at its place
abbrev pub WaitingStandInAStretch : Type 0
WaitingStandInAStretch =
    (plan : Plan) (seconds : List ℕ) (starts : List Start) (place t a u : ℕ) → IsPlan plan → IsNonDecreasing seconds → slice_get seconds place ≡ Some t → a ≤ t → t ≤ u
    → starts_before plan u ≡ starts_before plan a ++ starts
    → (numbers_of (before plan t)).waiting ≡ standing_at place (waiting_stretches seconds ((before plan a).waiting ++ coming_between plan.jobs a u) (start_of starts))

-- and of the jobs that run before a and those that are started there, so do the running ones, by number
abbrev pub RunningStandInAStretch : Type 0
RunningStandInAStretch =
    (plan : Plan) (seconds : List ℕ) (starts : List Start) (place t a u : ℕ) → IsPlan plan → IsNonDecreasing seconds → slice_get seconds place ≡ Some t → a ≤ t → t ≤ u
    → starts_before plan u ≡ starts_before plan a ++ starts
    → (numbers_of (before plan t)).running ≡ by_key (λ (r : RunningNumber). r.number) (standing_at place (map (placed_stretch seconds) ((before plan a).running ++ started_of plan.jobs starts)))
