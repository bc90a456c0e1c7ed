-- In what the starts of two plans differ, as it can be kept start by start.
use Rattle.std.specs.Prelude.{◌≡◌, ℕ, ◌+◌, ◌≤◌, Bool, not, ◌&&◌, nat_eq, max, is_none, if◌then◌else◌, List, [], ◌∷◌, ◌++◌, filter, count_by, Option, Some, None}
use Rattle.scenarios.specs.Job.{EffectiveJob}
use Rattle.scenarios.specs.Plan.{job_numbered}
use Rattle.easy_rule.specs.declared.start.Start.{Start}
use Rattle.easy_rule.specs.Simulation.{start_of}

-- The starts of the one plan whose numbers have none in the other, those of the other that have none in the one, and the
-- second from which on nobody runs any more who started in both, at different seconds.
pub record Ledger : Type 0 where
  pub here : List Start
  pub there : List Start
  pub until : ℕ

-- of the starts of one plan those whose numbers are not touched and have no start in the other
abbrev pub alone : (ℕ → Bool) → List Start → List Start → List Start
alone touched starts others = filter (λ x. not (touched x.number) && is_none (start_of others x.number)) starts

-- where a job starts in both plans, at different seconds: one second past the later of its ends
abbrev pub apart_until : EffectiveJob → Option ℕ → Option ℕ → ℕ
apart_until job (Some a) (Some b) = if nat_eq a b then 0 else max a b + job.length + 1
apart_until job (Some a) None = 0
apart_until job None b = 0

-- the latest such second of these jobs whose numbers are not touched, 0 where there is none
abbrev pub all_apart_until : (ℕ → Bool) → List EffectiveJob → List Start → List Start → ℕ
all_apart_until touched [] starts others = 0
all_apart_until touched (j ∷ js) starts others =
    max (if touched j.number then 0 else apart_until j (start_of starts j.number) (start_of others j.number)) (all_apart_until touched js starts others)

-- the ledger of these jobs, after these starts of the one plan and those of the other
abbrev pub ledger_of : (ℕ → Bool) → List EffectiveJob → List Start → List Start → Ledger
ledger_of touched jobs starts others = record {
  here = alone touched starts others;
  there = alone touched others starts;
  until = all_apart_until touched jobs starts others;
}

-- one more start of the one plan, whose job is this one, where the other's starts alone have this one of its number
abbrev pub noted_beside : EffectiveJob → Start → Ledger → Option ℕ → Ledger
noted_beside job x l None = record { here = l.here ++ x ∷ []; there = l.there; until = l.until }
noted_beside job x l (Some other) = record {
  here = l.here;
  there = filter (λ y. not (nat_eq x.number y.number)) l.there;
  until = max l.until (apart_until job (Some x.at) (Some other));
}

-- the ledger with one more start of the one plan
abbrev pub noted : (ℕ → Bool) → EffectiveJob → Start → Ledger → Ledger
noted touched job x l = if touched x.number then l else noted_beside job x l (start_of l.there x.number)

-- the ledger as the other plan sees it
abbrev pub swapped : Ledger → Ledger
swapped l = record { here = l.there; there = l.here; until = l.until }

-- a number's first start is noted so
abbrev pub NotesKeepTheLedger : Type 0
NotesKeepTheLedger =
    (touched : ℕ → Bool) (jobs : List EffectiveJob) (job : EffectiveJob) (starts others : List Start) (x : Start) → ((n : ℕ) → count_by (λ j. nat_eq j.number n) jobs ≤ 1)
    → job_numbered jobs x.number ≡ Some job → start_of starts x.number ≡ None → ledger_of touched jobs (starts ++ x ∷ []) others ≡ noted touched job x (ledger_of touched jobs starts others)

-- and a start of the other plan in the same way
abbrev pub LedgersSwap : Type 0
LedgersSwap = (touched : ℕ → Bool) (jobs : List EffectiveJob) (starts others : List Start) → ledger_of touched jobs others starts ≡ swapped (ledger_of touched jobs starts others)
