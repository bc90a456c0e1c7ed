-- The rules of a session with a book of its own: each call is a step of the book machine, and what is read is its state.
use Rattle.std.specs.Prelude.{◌≡◌, ℕ, Option, None, Some, Result, Ok, Err, Bool}
use Rattle.scenarios.specs.ScenarioList.{Listed, id_of}
use Rattle.book_machine.specs.Call.{BookCall}
use Rattle.book_machine.specs.Machine.{Machine, settled, version, note_limit}
use Rattle.tasks.specs.Published.{PublishedView}
use Rattle.version_book.specs.Reading.{Moment, present}
use Rattle.version_book.specs.Steps.{Answer, full, memory, outcome}
use Rattle.version_book.specs.declared.faults.ViewFault.{ViewFault}
use Rattle.version_book.specs.declared.faults.ViewFault.TheVariants as view
use Rattle.version_book.specs.declared.refusal.Refusal.{Refusal}
use Rattle.version_book.specs.declared.refusal.Refusal.TheVariants as why
use Rattle.version_book.specs.Looks.{IsListedAs, IsLooked}
use Rattle.version_book.specs.Rules.{Rules}
use Rattle.version_book.specs.Session.{Session, IsStep}
use Rattle.version_book.specs.Settling.{Settles}

-- the book noted the call, and replied; or no call is noted any more, or memory was refused, and nothing changed
abbrev pub IsAnswered : Session → BookCall → Answer → Session → Type 0
IsAnswered old call full new = (old.machine.notes ≡ note_limit) × (new ≡ old)
IsAnswered old call memory new = new ≡ old
IsAnswered old call (outcome reply) new = IsStep old call reply new

-- A run that is shown is the simulation of its version's log under the listed scenario with this id, and one that is listed is no
-- missing one.
abbrev pub IsTrueOf : Machine → ℕ → Result PublishedView (Refusal ViewFault) → Type 0
IsTrueOf m id (Ok p) = IsLooked m id p
IsTrueOf m id (Err (why.Fault view.NoSuchScenario)) = (s : Listed) → IsListedAs m id s → ⊥
IsTrueOf m id (Err refusal) = Unit {0}

-- what is read is the present, unless memory is refused
abbrev pub IsPresent : Machine → Option Moment → Type 0
IsPresent m None = Unit {0}
IsPresent m (Some moment) = moment ≡ present m

abbrev pub book_rules : Rules Session
book_rules = record {
  does = IsAnswered;
  sees = λ old id outcome new. IsTrueOf old.machine id outcome;
  finds = λ old name found new. (found ≡ id_of name old.machine.listing) × (new ≡ old);
  counts = λ old number new. (number ≡ version old.machine) × (new ≡ old);
  reads = λ old moment new. IsPresent old.machine moment × (new ≡ old);
  settles = λ old state new. ((short : Bool) × Settles short old.machine new.machine) × (new.seen ≡ old.seen) × (state ≡ settled old.seen new.machine);
  seen = λ s. s.seen;
}
