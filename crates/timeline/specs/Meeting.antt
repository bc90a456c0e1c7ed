-- Where the states of two plans are equal, but for some numbers: touched ones, whose jobs may differ.
use Rattle.std.specs.Prelude.{◌≡◌, ℕ, ◌+◌, ◌≤◌, ◌<◌, ◌⊎◌, ◌↔◌, Bool, true, false, not, [], filter, Option, Some, None, IfSome}
use Rattle.scenarios.specs.Job.{EffectiveJob}
use Rattle.scenarios.specs.Plan.{Plan, job_numbered}
use Rattle.scenarios.specs.SoundPlan.{IsPlan}
use Rattle.cluster_state.specs.Snapshot.{Numbers, numbers_of, standing}
use Rattle.easy_rule.specs.Simulation.{before, starts_before}
use Rattle.timeline.specs.Closed.{known_start}
use Rattle.timeline.specs.Ledger.{Ledger, ledger_of}

-- two plans whose jobs are equal, but for those of touched numbers
pub record AgreeBut (touched : ℕ → Bool) (p q : Plan) : Type 0 where
  pub left : IsPlan p
  pub right : IsPlan q
  pub others : (n : ℕ) → touched n ≡ false → job_numbered p.jobs n ≡ job_numbered q.jobs n

-- a snapshot without the touched numbers
abbrev pub untouched : (ℕ → Bool) → Numbers → Numbers
untouched touched there = record {
  waiting = filter (λ n. not (touched n)) there.waiting;
  running = filter (λ r. not (touched r.number)) there.running;
}

-- no touched number waits or runs there
abbrev pub NoneOf : (ℕ → Bool) → Numbers → Type 0
NoneOf touched there = (n : ℕ) → touched n ≡ true → 1 ≤ standing there n → ⊥

-- in what the starts before second t differ
abbrev pub ledger_before : (ℕ → Bool) → Plan → Plan → ℕ → Ledger
ledger_before touched p q t = ledger_of touched q.jobs (starts_before p t) (starts_before q t)

-- Of the numbers that are not touched, the same have started before second t in both plans; and those that have started at
-- different seconds have ended in both.
pub record HaveMet (touched : ℕ → Bool) (p q : Plan) (t : ℕ) : Type 0 where
  pub none_here : (ledger_before touched p q t).here ≡ []
  pub none_there : (ledger_before touched p q t).there ≡ []
  pub ended : (ledger_before touched p q t).until ≤ t

-- of a number's job, and of its starts before second t in two plans: it has started in both or in neither, and at one
-- second, or it has ended in both
abbrev pub HasMet : ℕ → Option EffectiveJob → Option ℕ → Option ℕ → Type 0
HasMet t job None None = Unit {0}
HasMet t job (Some a) None = ⊥
HasMet t job None (Some b) = ⊥
HasMet t job (Some a) (Some b) = (a ≡ b) ⊎ IfSome job (λ j. (a + j.length < t) × (b + j.length < t))

-- they have met where each number has that is not touched
abbrev pub EachHasMet : Type 0
EachHasMet =
    (touched : ℕ → Bool) (p q : Plan) (t : ℕ) → AgreeBut touched p q
    → HaveMet touched p q t ↔ ((n : ℕ) → touched n ≡ false → HasMet t (job_numbered q.jobs n) (known_start p t n) (known_start q t n))

-- this is where the states before the second are equal, the touched numbers aside
abbrev pub StatesMeet : Type 0
StatesMeet =
    (touched : ℕ → Bool) (p q : Plan) (t : ℕ) → AgreeBut touched p q
    → (untouched touched (numbers_of (before p t)) ≡ untouched touched (numbers_of (before q t))) ↔ HaveMet touched p q t

-- and, where no touched number waits or runs in either, it is where they are equal
abbrev pub SnapshotsMeet : Type 0
SnapshotsMeet =
    (touched : ℕ → Bool) (p q : Plan) (t : ℕ) → AgreeBut touched p q
    → ((numbers_of (before p t) ≡ numbers_of (before q t)) × NoneOf touched (numbers_of (before q t)))
    ↔ (HaveMet touched p q t × NoneOf touched (numbers_of (before p t)) × NoneOf touched (numbers_of (before q t)))
