-- The jobs that are to come.
use Rattle.std.specs.Prelude.{◌≡◌, ℕ, ◌≤◌, ◌<◌, List, [], ◌∷◌, ◌++◌, drop, All, Option, Some, None, IfSome}
use Rattle.std.specs.Option.{option_or}
use Rattle.scenarios.specs.Job.{EffectiveJob}
use Rattle.scenarios.specs.Plan.{from_on}

-- the jobs that are submitted at a second or later, where there is such a second
abbrev pub from_any : Option ℕ → List EffectiveJob → List EffectiveJob
from_any None jobs = []
from_any (Some t) jobs = from_on t jobs

-- the submit second of the first job
abbrev pub first_submit : List EffectiveJob → Option ℕ
first_submit [] = None
first_submit (j ∷ js) = Some j.submit

-- a later job is not submitted earlier
abbrev pub NonFalling : List EffectiveJob → Type 0
NonFalling [] = Unit {0}
NonFalling (j ∷ js) = All (λ k. j.submit ≤ k.submit) js × NonFalling js

-- Jobs that come next, in their order, and the submit second of the first job behind them.
pub record NextJobs : Type 0 where
  pub row : List EffectiveJob
  pub later : Option ℕ

-- the submit second of the next job
abbrev pub next_of : NextJobs → Option ℕ
next_of upcoming = option_or (first_submit upcoming.row) upcoming.later

-- the first job comes no more
abbrev pub without_first : NextJobs → NextJobs
without_first upcoming = record { row = drop 1 upcoming.row; later = upcoming.later }

-- of these jobs, those from a position on are the jobs of the row, and then all that are submitted at the later second or after it; the jobs of the row are submitted before it
pub record IsUpcoming (upcoming : NextJobs) (position : ℕ) (jobs : List EffectiveJob) : Type 0 where
  pub all : from_on position jobs ≡ upcoming.row ++ from_any upcoming.later jobs
  pub first : upcoming.later ≡ first_submit (from_any upcoming.later jobs)
  pub before : IfSome upcoming.later (λ t. All (λ j. j.submit < t) upcoming.row)
