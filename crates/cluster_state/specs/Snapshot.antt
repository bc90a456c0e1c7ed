-- A state as a log can tell it again: the numbers of its jobs, apart from their sizes and lengths.
use Rattle.std.specs.Prelude.{◌≡◌, ℕ, ◌+◌, ◌≤◌, ◌<◌, nat_eq, List, [], ◌∷◌, Option, IsSome, Some, map, count_by, All}
use Rattle.std.specs.List.{filter_map}
use Rattle.std.specs.Option.{option_map}
use Rattle.frames.specs.Frames.{standing_at}
use Rattle.frames.specs.declared.stretch.Stretch.{Stretch}
use Rattle.scenarios.specs.Limits.{seconds_end}
use Rattle.scenarios.specs.Job.{EffectiveJob}
use Rattle.scenarios.specs.Plan.{Plan, job_numbered}
use Rattle.scenarios.specs.declared.placed.Placed.{Placed}
use Rattle.cluster_state.specs.declared.snapshot.RunningNumber.{RunningNumber}
use Rattle.cluster_state.specs.State.{State, busy}

-- The numbers of the waiting jobs in order of arrival, and those of the running ones, with their starts, by number.
pub record Numbers : Type 0 where
  pub waiting : List ℕ
  pub running : List RunningNumber

-- a running job's number and start
abbrev pub number_of : Placed → RunningNumber
number_of r = record { number = r.job.number; start = r.start }

-- the numbers of a state
abbrev pub numbers_of : State → Numbers
numbers_of s = record { waiting = map (λ (j : EffectiveJob). j.number) s.waiting; running = map number_of s.running }

-- how often a number waits or runs there
abbrev pub standing : Numbers → ℕ → ℕ
standing p n = count_by (λ m. nat_eq m n) p.waiting + count_by (λ r. nat_eq r.number n) p.running

-- the numbers that stand at a place of two frames
abbrev pub standing_there : ℕ → List (Stretch ℕ) → List (Stretch RunningNumber) → Numbers
standing_there place waiting running = record { waiting = standing_at place waiting; running = standing_at place running }

-- these numbers do not fall
abbrev pub NumbersRise : List RunningNumber → Type 0
NumbersRise [] = Unit {0}
NumbersRise (r ∷ rs) = All (λ x. r.number ≤ x.number) rs × NumbersRise rs

-- what is true of the numbers of each cluster: none stands twice, those of running jobs rise, and starts are seconds
pub record IsSnapshot (p : Numbers) : Type 0 where
  pub once : (n : ℕ) → standing p n ≤ 1
  pub rising : NumbersRise p.running
  pub started : All (λ r. r.start < seconds_end) p.running

-- the job of a running number, running since its start
abbrev pub running_numbered : List EffectiveJob → RunningNumber → Option Placed
running_numbered jobs r = option_map (λ job. record { job = job; start = r.start }) (job_numbered jobs r.number)

-- the state of these numbers, where each stands for the plan's job
abbrev pub restored : Numbers → Plan → State
restored p plan = record {
  procs = plan.procs;
  order = plan.order;
  waiting = filter_map (job_numbered plan.jobs) p.waiting;
  running = filter_map (running_numbered plan.jobs) p.running;
}

-- each number is that of a job of the plan, and the running ones together are within the machine
pub record Fits (p : Numbers) (plan : Plan) : Type 0 where
  pub waiting : All (λ n. IsSome (job_numbered plan.jobs n)) p.waiting
  pub running : All (λ r. IsSome (job_numbered plan.jobs r.number)) p.running
  pub sizes : busy (restored p plan).running ≤ plan.procs

-- the state is one of the plan's machine and order, and each of its jobs is the plan's job of its number
pub record IsOfPlan (s : State) (plan : Plan) : Type 0 where
  pub procs : s.procs ≡ plan.procs
  pub order : s.order ≡ plan.order
  pub waiting : All (λ j. job_numbered plan.jobs j.number ≡ Some j) s.waiting
  pub running : All (λ r. job_numbered plan.jobs r.job.number ≡ Some r.job) s.running
