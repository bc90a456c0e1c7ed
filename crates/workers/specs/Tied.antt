-- What lies under the lock of a desk, and how the history is tied to it.
use Rattle.std.specs.Prelude.{◌≡◌, ◌≤◌, ℕ, Bool, true, false, List, count_by, drop, length, Option, None, Some}
use Rattle.book_machine.specs.declared.caller.Caller.TheVariants as caller
use Rattle.book_machine.specs.History.{Noted}
use Rattle.book_machine.specs.Machine.{Machine}
use Rattle.chronicle.specs.Events.{Happened, Called, Opened, Stopped, notes_of, state_after}
use Rattle.chronicle.specs.Fronts.{Seen, Adds}
use Rattle.version_book.specs.Book.{BookView, machine_of}
use Rattle.workers.specs.Settling.{has_stopped}

-- the book, the history of the desk, how many sessions and workers were opened, and whether the desk is stopped
pub record SharedView : Type 0 where
  pub book : BookView
  pub history : Seen
  pub sessions : ℕ
  pub workers : ℕ
  pub stopped : Bool

abbrev pub opens_session : Happened → Bool
opens_session (Called note) = false
opens_session (Opened (caller.Session k)) = true
opens_session (Opened (caller.Worker k)) = false
opens_session Stopped = false

abbrev pub opens_worker : Happened → Bool
opens_worker (Called note) = false
opens_worker (Opened (caller.Session k)) = false
opens_worker (Opened (caller.Worker k)) = true
opens_worker Stopped = false

-- how many sessions were opened, and how many workers
abbrev pub opened_sessions : List Happened → ℕ
opened_sessions events = count_by opens_session events

abbrev pub opened_workers : List Happened → ℕ
opened_workers events = count_by opens_worker events

-- The history's calls are the notes after the opening ones, and lead to where the book stands; this many callers were opened in
-- it; and the desk is stopped where it has a stop.
pub record AreOne (opening : Machine) (v : SharedView) : Type 0 where
  pub notes : notes_of v.history.events ≡ drop opening.notes v.book.journal
  pub far : opening.notes ≤ length v.book.journal
  pub machine : state_after opening v.history.events ≡ machine_of v.book
  pub sessions : opened_sessions v.history.events ≡ v.sessions
  pub workers : opened_workers v.history.events ≡ v.workers
  pub stopped : v.stopped ≡ has_stopped v.history.events

abbrev pub IsTied : Machine → SharedView → Type 0
IsTied opening v = v.history.kept ≡ true → AreOne opening v

-- the history heard of a call that was noted
abbrev pub Hears : Seen → Option Noted → Seen → Type 0
Hears old None new = new ≡ old
Hears old (Some note) new = Adds old (Called note) new
