-- What the calls of any analyst may return.
use Rattle.std.specs.Prelude.{ℕ, List, Option, None, Some, Result, Ok, Err}
use Rattle.book_machine.specs.declared.settle_state.SettleState.{SettleState}
use Rattle.book_machine.specs.Call.{BookCall}
use Rattle.tasks.specs.Published.{PublishedView}
use Rattle.version_book.specs.declared.faults.ViewFault.{ViewFault}
use Rattle.version_book.specs.declared.reading.Reading.{Reading}
use Rattle.version_book.specs.declared.refusal.Refusal.{Refusal}
use Rattle.version_book.specs.Reading.{Moment, moment_of}
use Rattle.version_book.specs.Steps.{Answer}

-- what was read; none where memory was refused
abbrev pub read_of : {A E : Type 0} → Result (Reading A) E → Option Moment
read_of (Ok reading) = Some (moment_of reading)
read_of (Err fault) = None

-- Each rule relates the state before a call, its result, and the state after it.
pub record Rules (S : Type 0) : Type 1 where
  -- a call has this result
  pub does : S → BookCall → Answer → S → Type 0
  -- a view of the scenario with this id returns this
  pub sees : S → ℕ → Result PublishedView (Refusal ViewFault) → S → Type 0
  -- the scenario with this name has this id
  pub finds : S → List ℕ → Option ℕ → S → Type 0
  -- the log has this version
  pub counts : S → ℕ → S → Type 0
  -- the log and the scenarios stand so; none where memory is refused
  pub reads : S → Option Moment → S → Type 0
  -- the scenarios are so far, once no work is waited for
  pub settles : S → SettleState → S → Type 0
  -- the greatest version that an edit or a view returned
  pub seen : S → ℕ
