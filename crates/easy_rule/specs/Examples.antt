-- Worked logs on a machine of 10 processors, with their starts as worked by hand.
use Rattle.std.specs.Prelude.{◌≡◌, ℕ, min, pos, nat_lt, List, [], ◌∷◌}
use Rattle.scenarios.specs.Job.{EffectiveJob}
use Rattle.scenarios.specs.declared.order.Order.{Order}
use Rattle.scenarios.specs.declared.order.Order.TheVariants.{Arrival, Shortest}
use Rattle.easy_rule.specs.declared.start.Start.{Start}
use Rattle.scenarios.specs.Plan.{Plan}
use Rattle.easy_rule.specs.Simulation.{sim}

-- a job by its number, submit second, size, run time and estimate
abbrev pub job : ℕ → ℕ → ℕ → ℕ → ℕ → EffectiveJob
job number submit size run estimate = record {
  number = number;
  submit = submit;
  size = size;
  estimate = estimate;
  length = min run estimate;
  user = pos 0;
  killed = nat_lt estimate run;
}

abbrev pub start : ℕ → ℕ → Start
start number at = record { number = number; at = at }

abbrev pub on_ten : Order → List EffectiveJob → Plan
on_ten order jobs = record { procs = 10; order = order; jobs = jobs }

-- the starts of this plan, in order of starting
abbrev pub Gives : Plan → List Start → Type 0
Gives plan starts = sim plan ≡ starts

-- The four-job log. Job 2 waits for job 1. Job 3 ends before that, at 92; then job 4 takes the 2 processors that job 2 leaves over.
abbrev pub FourJobs : Type 0
FourJobs =
    Gives (on_ten Arrival (job 1 0 6 100 100 ∷ job 2 1 8 50 50 ∷ job 3 2 4 90 90 ∷ job 4 3 2 500 500 ∷ []))
    (start 1 0 ∷ start 3 2 ∷ start 4 92 ∷ start 2 100 ∷ [])

-- job 3 ends exactly at the shadow time, 100, and is backfilled
abbrev pub EndsAtTheShadowTime : Type 0
EndsAtTheShadowTime =
    Gives (on_ten Arrival (job 1 0 6 100 100 ∷ job 2 1 8 50 50 ∷ job 3 2 4 98 98 ∷ job 4 3 2 500 500 ∷ []))
    (start 1 0 ∷ start 3 2 ∷ start 2 100 ∷ start 4 100 ∷ [])

-- job 3 would end a second after the shadow time and takes more than the extra processors; job 4 takes these
abbrev pub EndsAfterTheShadowTime : Type 0
EndsAfterTheShadowTime =
    Gives (on_ten Arrival (job 1 0 6 100 100 ∷ job 2 1 8 50 50 ∷ job 3 2 4 99 99 ∷ job 4 3 2 500 500 ∷ []))
    (start 1 0 ∷ start 4 3 ∷ start 2 100 ∷ start 3 150 ∷ [])

-- at 92 job 4 takes the extra processors, so none are left for job 5
abbrev pub TakesTheExtraOnce : Type 0
TakesTheExtraOnce =
    Gives (on_ten Arrival (job 1 0 6 100 100 ∷ job 2 1 8 50 50 ∷ job 3 2 4 90 90 ∷ job 4 3 2 500 500 ∷ job 5 4 2 500 500 ∷ []))
    (start 1 0 ∷ start 3 2 ∷ start 4 92 ∷ start 2 100 ∷ start 5 150 ∷ [])

-- jobs 1 and 2 both end at the shadow time of job 3, so it leaves 5 processors over
abbrev pub CountsAllThatEnd : Type 0
CountsAllThatEnd =
    Gives (on_ten Arrival (job 1 0 4 100 100 ∷ job 2 0 4 100 100 ∷ job 3 1 5 10 10 ∷ job 4 2 2 500 500 ∷ []))
    (start 1 0 ∷ start 2 0 ∷ start 4 2 ∷ start 3 100 ∷ [])

-- job 1 is ended at its estimate, 40
abbrev pub EndsAtItsEstimate : Type 0
EndsAtItsEstimate =
    Gives (on_ten Arrival (job 1 0 6 100 40 ∷ job 2 1 8 50 50 ∷ job 3 2 4 90 90 ∷ job 4 3 2 500 500 ∷ []))
    (start 1 0 ∷ start 4 3 ∷ start 2 40 ∷ start 3 90 ∷ [])

-- the log of the two orders; jobs 3 and 4 may both be backfilled at 2, but not together
abbrev pub two_orders : ℕ → List EffectiveJob
two_orders last = job 1 0 8 100 100 ∷ job 2 1 10 30 30 ∷ job 3 2 2 80 80 ∷ job 4 2 2 last last ∷ job 5 50 3 5 5 ∷ []

-- in order of arrival job 3 goes first
abbrev pub BackfillsByArrival : Type 0
BackfillsByArrival = Gives (on_ten Arrival (two_orders 20)) (start 1 0 ∷ start 3 2 ∷ start 2 100 ∷ start 4 130 ∷ start 5 130 ∷ [])

-- by estimate job 4 goes first, but the head of the queue stays the first by arrival
abbrev pub BackfillsByEstimate : Type 0
BackfillsByEstimate = Gives (on_ten Shortest (two_orders 20)) (start 1 0 ∷ start 4 2 ∷ start 2 100 ∷ start 3 130 ∷ start 5 130 ∷ [])

-- of two jobs with one estimate the earlier by arrival goes first
abbrev pub BreaksTiesByArrival : Type 0
BreaksTiesByArrival = Gives (on_ten Shortest (two_orders 80)) (start 1 0 ∷ start 3 2 ∷ start 2 100 ∷ start 4 130 ∷ start 5 130 ∷ [])
