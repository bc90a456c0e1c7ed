-- How a ledger of the starts of two simulations is kept.
use Rattle.std.specs.Prelude.{◌≡◌, ℕ, ◌+◌, ◌-◌, ◌≤◌, ◌<◌, ◌^◌, ◌↔◌, min, Bool, false, nat_eq, count_by, List, All, drop, None, IfSome, IsSome}
use Rattle.std.specs.Ordering.{nat_cmp}
use Rattle.std.specs.BTreeMap.{BTreeMap, get}
use Rattle.scenarios.specs.Job.{EffectiveJob}
use Rattle.scenarios.specs.Plan.{job_numbered}
use Rattle.easy_rule.specs.declared.start.Start.{Start}
use Rattle.easy_rule.specs.Simulation.{start_of, starts_before}
use Rattle.timeline.specs.Ledger.{Ledger as Differences, ledger_of}
use Rattle.rejoin.specs.Reused.{next_first}
use Rattle.rejoin.specs.Rejoining.{ChangeView}
use Rattle.rejoin.specs.Started.{among, HaveEnded, starts_of}
use Rattle.rejoin.specs.declared.ledger.Ledger.{Ledger}

-- of no number
abbrev pub HasNone : BTreeMap ℕ ℕ → Type 0
HasNone seconds = (n : ℕ) → get nat_cmp seconds n ≡ None

-- of each number the second of these starts that is its own
abbrev pub Tells : BTreeMap ℕ ℕ → List Start → Type 0
Tells seconds starts = (n : ℕ) → get nat_cmp seconds n ≡ start_of starts n

-- The seconds by number are those of the ledger's starts; and whoever asks from a second on whether its last second has
-- come is answered by this one.
pub record Keeps (from : ℕ) (l : Differences) (here there : BTreeMap ℕ ℕ) (until : ℕ) : Type 0 where
  pub tells_here : Tells here l.here
  pub tells_there : Tells there l.there
  pub tells_until : (t : ℕ) → from ≤ t → (until ≤ t) ↔ (l.until ≤ t)

-- starts of which no two have one number, each of one of these jobs, unless its number is touched, and none late
pub record AreStarts (touched : ℕ → Bool) (jobs : List EffectiveJob) (starts : List Start) : Type 0 where
  pub single : (n : ℕ) → count_by (λ (j : EffectiveJob). nat_eq j.number n) jobs ≤ 1
  pub once : (n : ℕ) → count_by (λ (x : Start). nat_eq x.number n) starts ≤ 1
  pub have_jobs : All (λ (x : Start). touched x.number ≡ false → IsSome (job_numbered jobs x.number)) starts
  pub early : All (λ (x : Start). x.at < 2 ^ 49) starts

-- So many touched numbers have started in the old plan before a second and in the new one before another, as far as a
-- count goes; and whoever asks from a second on whether they have ended is answered by this one.
pub record Follows (from : ℕ) (c : ChangeView) (a b : ℕ) (started ended : ℕ) : Type 0 where
  pub count : started ≡ min (starts_of c.touched (starts_before c.was a) + starts_of c.touched (starts_before c.is b)) (2 ^ 64 - 1)
  pub tells : (t : ℕ) → from ≤ t → (ended ≤ t) ↔ (HaveEnded c.touched c.was.jobs (starts_before c.was a) t × HaveEnded c.touched c.is.jobs (starts_before c.is b) t)

-- the ledger of the starts of the old plan before a second, and of those of the new plan before another
abbrev pub ledger_at : ChangeView → ℕ → ℕ → Differences
ledger_at c a b = ledger_of (among c.touched) c.is.jobs (starts_before c.was a) (starts_before c.is b)

-- noted are the starts of the old plan before second a, and those of the new plan before the position
pub record AreNotes {A : Type 0} (c : ChangeView) (a position : ℕ) (notes : Ledger A) : Type 0 where
  pub others : Keeps position (ledger_at c a position) notes.was notes.is notes.until
  pub touched : Follows position c a position notes.started notes.ended

-- noted are those of the old plan before the first of the old segments that are left, if there is one
abbrev pub IsNoted : {A : Type 0} → ChangeView → ℕ → ℕ → Ledger A → Type 0
IsNoted c at position notes = IfSome (next_first (drop at c.old)) (λ a. AreNotes c a position notes)
