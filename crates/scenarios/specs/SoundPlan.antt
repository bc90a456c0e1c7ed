-- What each plan of a log keeps.
use Rattle.std.specs.Prelude.{ℕ, ◌≤◌, Bool, nat_eq, IsTrue, List, [], ◌∷◌, length, All, count_by}
use Rattle.swf_text.specs.Limits.{entry_limit}
use Rattle.swf_text.specs.Log.{submits_before}
use Rattle.scenarios.specs.Limits.{procs_limit}
use Rattle.scenarios.specs.Job.{EffectiveJob, IsWithinLimits}
use Rattle.scenarios.specs.Plan.{Plan}

-- the one job stands before the other in submit order
abbrev pub is_before : EffectiveJob → EffectiveJob → Bool
is_before a b = submits_before a.submit a.number b.submit b.number

-- each job comes before the next
abbrev pub IsRising : List EffectiveJob → Type 0
IsRising [] = Unit {0}
IsRising (job ∷ []) = Unit {0}
IsRising (job ∷ next ∷ jobs) = IsTrue (is_before job next) × IsRising (next ∷ jobs)

-- a machine within its limit, and jobs that fit it, at most as many as a log has, rising by submit second and number, no two of one number
pub record IsPlan (plan : Plan) : Type 0 where
  pub limited : plan.procs ≤ procs_limit
  pub sizes : All (λ j. j.size ≤ plan.procs) plan.jobs
  pub limits : All IsWithinLimits plan.jobs
  pub few : length plan.jobs ≤ entry_limit
  pub once : (n : ℕ) → count_by (λ j. nat_eq j.number n) plan.jobs ≤ 1
  pub rising : IsRising plan.jobs
