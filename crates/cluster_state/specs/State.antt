-- The state of a simulated machine, apart from how the code keeps it.
use Rattle.std.specs.Prelude.{◌≡◌, ℕ, ◌+◌, ◌-◌, ◌≤◌, ◌<◌, nat_eq, nat_le, nat_lt, if◌then◌else◌, List, [], ◌∷◌, ◌++◌, Option, Some, IsSomeAnd, filter, find, sum_by, count_by, All}
use Rattle.std.specs.Option.{option_map_or}
use Rattle.scenarios.specs.Limits.{procs_limit, seconds_end}
use Rattle.scenarios.specs.Job.{EffectiveJob, IsWithinLimits}
use Rattle.scenarios.specs.declared.order.Order.{Order}
use Rattle.scenarios.specs.declared.placed.Placed.{Placed}
use Rattle.scenarios.specs.Placed.{expected_end, real_end}

-- A machine's processors, the order in which later jobs are looked at, the waiting jobs in order of arrival, and the
-- running ones, with their starts, rising by number.
pub record State : Type 0 where
  pub procs : ℕ
  pub order : Order
  pub waiting : List EffectiveJob
  pub running : List Placed

-- What callers see of a cluster: its state, how many starts it has capacity for, and the places of the candidates in which the later
-- jobs are looked at for a backfill. Who left may have left its place empty.
pub record ClusterView : Type 0 where
  pub state : State
  pub spare : ℕ
  pub places : List (Option EffectiveJob)

-- a machine on which no job waits or runs
abbrev pub empty : ℕ → Order → State
empty procs order = record { procs = procs; order = order; waiting = []; running = [] }

-- the processors that running jobs hold
abbrev pub busy : List Placed → ℕ
busy rs = sum_by (λ r. r.job.size) rs

-- the processors that no running job holds
abbrev pub free : State → ℕ
free s = s.procs - busy s.running

-- the processors that a running job has given back by second t, if it runs as long as is expected
abbrev pub back_by : ℕ → Placed → ℕ
back_by t r = if nat_le (expected_end r) t then r.job.size else 0

-- the processors that are free now or come back by second t, where each running job ends when it is expected to
abbrev pub available : State → ℕ → ℕ
available s t = free s + sum_by (back_by t) s.running

-- how many waiting and running jobs have this number
abbrev pub holders : State → ℕ → ℕ
holders s n = count_by (λ j. nat_eq j.number n) s.waiting + count_by (λ r. nat_eq r.job.number n) s.running

-- the waiting job of this number
abbrev pub waiting_job : State → ℕ → Option EffectiveJob
waiting_job s n = find (λ j. nat_eq j.number n) s.waiting

-- a job may join the queue: no job has its number, and it is not larger than the machine
abbrev pub CanArrive : State → EffectiveJob → Type 0
CanArrive s job = (holders s job.number ≡ 0) × (job.size ≤ s.procs)

-- the job of this number may start: it waits, and fits into the free processors
abbrev pub CanStart : State → ℕ → Type 0
CanStart s n = IsSomeAnd (waiting_job s n) (λ job. job.size ≤ free s)

-- a job joins the queue, at its end
abbrev pub arrived : State → EffectiveJob → State
arrived s job = record { procs = s.procs; order = s.order; waiting = s.waiting ++ job ∷ []; running = s.running }

-- the jobs without the first of this number
abbrev pub without : ℕ → List EffectiveJob → List EffectiveJob
without n [] = []
without n (j ∷ js) = if nat_eq j.number n then js else j ∷ without n js

-- the jobs without the first of each of these jobs' numbers
abbrev pub without_all : List EffectiveJob → List EffectiveJob → List EffectiveJob
without_all [] xs = xs
without_all (j ∷ js) xs = without_all js (without j.number xs)

-- one more running job among those that rise by number
abbrev pub placed : Placed → List Placed → List Placed
placed r [] = r ∷ []
placed r (x ∷ xs) = if nat_lt r.job.number x.job.number then r ∷ x ∷ xs else x ∷ placed r xs

-- the numbers of these running jobs do not fall
abbrev pub RisesByNumber : List Placed → Type 0
RisesByNumber [] = Unit {0}
RisesByNumber (r ∷ rs) = All (λ x. r.job.number ≤ x.job.number) rs × RisesByNumber rs

-- a waiting job leaves the queue and runs from second `now` on
abbrev pub started : State → EffectiveJob → ℕ → State
started s job now = record { procs = s.procs; order = s.order; waiting = without job.number s.waiting; running = placed (record { job = job; start = now }) s.running }

-- the waiting job of this number starts at second `now`
abbrev pub after_start : State → ℕ → ℕ → State
after_start s n now = option_map_or (λ job. started s job now) (waiting_job s n) s

-- these jobs start at second `now`, one after another
abbrev pub all_started : State → List EffectiveJob → ℕ → State
all_started s [] now = s
all_started s (j ∷ js) now = all_started (started s j now) js now

-- these jobs may start, one after another: each in its turn is the waiting job of its number, and fits into what is then free
abbrev pub CanStartAll : State → List EffectiveJob → ℕ → Type 0
CanStartAll s [] now = Unit {0}
CanStartAll s (j ∷ js) now = (waiting_job s j.number ≡ Some j) × (j.size ≤ free s) × CanStartAll (started s j now) js now

-- those that end by second t have left
abbrev pub ended_until : State → ℕ → State
ended_until s t = record { procs = s.procs; order = s.order; waiting = s.waiting; running = filter (λ r. nat_lt t (real_end r)) s.running }

-- what is true of the state of each cluster: jobs are within the limits, running ones within the machine, and no two have one number
pub record IsSound (s : State) : Type 0 where
  pub limited : s.procs ≤ procs_limit
  pub fits : busy s.running ≤ s.procs
  pub once : (n : ℕ) → holders s n ≤ 1
  pub waiting_fit : All (λ j. j.size ≤ s.procs) s.waiting
  pub waiting_limits : All IsWithinLimits s.waiting
  pub running_limits : All (λ r. IsWithinLimits r.job) s.running
  pub started : All (λ r. r.start < seconds_end) s.running
