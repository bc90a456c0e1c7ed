-- One pass over the waiting jobs, with what is left at each step of it.
use Rattle.std.specs.Prelude.{◌≡◌, ℕ, ◌+◌, ◌-◌, ◌<◌, min, true, false, nat_le, if◌then◌else◌, List, ◌∷◌, ◌++◌, length, take, drop, Some, All}
use Rattle.scenarios.specs.Job.{EffectiveJob}
use Rattle.waiting_places.specs.Places.{at_place, waiting}
use Rattle.cluster_state.specs.State.{State, ClusterView, free, all_started, CanStartAll}
use Rattle.cluster_state.specs.Candidates.{in_order}
use Rattle.easy_rule.specs.declared.shadow_time.Shadow.{Shadow}
use Rattle.easy_rule.specs.declared.start.Start.{Start}
use Rattle.easy_rule.specs.Rule.{may_backfill, next, shadow_at}

-- no more jobs can start at once: each is a waiting one, and takes a processor at least
abbrev pub most_starts : State → ℕ
most_starts s = min (length s.waiting) (free s)

-- what the head leaves once this later job runs too: one that runs past the shadow time takes from the extra processors
abbrev pub less : Shadow → ℕ → EffectiveJob → Shadow
less w now job = record { time = w.time; extra = if nat_le (now + job.estimate) w.time then w.extra else w.extra - job.size }

-- a job's start
abbrev pub start_at : ℕ → EffectiveJob → Start
start_at now job = record { number = job.number; at = now }

-- from state s these jobs may start at second `now`, one after another, and they leave t
pub record AreStarted (s : State) (now : ℕ) (jobs : List EffectiveJob) (t : State) : Type 0 where
  pub can : CanStartAll s jobs now
  pub state : t ≡ all_started s jobs now

-- the waiting jobs in the order in which they are looked at, the head among them
abbrev pub candidates : State → List EffectiveJob
candidates s = in_order s.order s.waiting

-- the state with the first n of the queue alone
abbrev pub front : State → ℕ → State
front s n = record { procs = s.procs; order = s.order; waiting = take n s.waiting; running = s.running }

-- those who stand in the candidates from a place on
abbrev pub candidates_from : ClusterView → ℕ → List EffectiveJob
candidates_from c place = waiting (drop place c.places)

-- What the pass knows where these are left of the candidates: the head does not fit, w is what it leaves, and nobody in front of them may start.
pub record IsPass (s : State) (now : ℕ) (w : Shadow) (left : List EffectiveJob) : Type 0 where
  pub head : EffectiveJob
  pub later : List EffectiveJob
  pub queue : s.waiting ≡ head ∷ later
  pub waits : free s < head.size
  pub shadow : w ≡ shadow_at s head.size
  pub passed : List EffectiveJob
  pub parts : candidates s ≡ passed ++ left
  pub refused : All (λ j. may_backfill now (free s) w j ≡ false) passed

-- the job at this place of the candidates is a later one that starts next, and nobody in front of it may start
pub record IsCandidate (c : ClusterView) (now : ℕ) (w : Shadow) (place : ℕ) (job : EffectiveJob) : Type 0 where
  pub stands : at_place c.places place ≡ Some job
  pub may : may_backfill now (free c.state) w job ≡ true
  pub found : next c.state now ≡ Some job
  pub pass : IsPass c.state now w (candidates_from c place)
