-- What a closed desk says of its callers' lists.
use Rattle.std.specs.Prelude.{◌≡◌, ℕ, ◌<◌, ◌==◌, ◌||◌, Bool, true, List, length, Option, None, Some}
use Rattle.std.specs.List.{All, list_any}
use mathlib.Core.List.{IsPrefix}
use Rattle.book_machine.specs.declared.caller.Caller.TheVariants as caller
use Rattle.book_machine.specs.History.{Noted}
use Rattle.book_machine.specs.Machine.{Machine}
use Rattle.chronicle.specs.Events.{Happened, IsLegalFrom, notes_of, state_after}
use Rattle.chronicle.specs.Fronts.{Seen, Begins}
use Rattle.workers.specs.Lists.{part_of, same_caller}
use Rattle.workers.specs.Callers.{SessionView, WorkerView}
use Rattle.workers.specs.Tied.{opened_sessions, opened_workers}
use Rattle.workers.specs.declared.close_fault.CloseFault.{CloseFault}
use Rattle.workers.specs.declared.close_fault.CloseFault.TheVariants as faults

-- each session's list is the part of the notes with its name
abbrev pub SessionsTell : List SessionView → List Noted → Type 0
SessionsTell sessions notes = All (λ (s : SessionView). s.list ≡ part_of (caller.Session s.number) notes) sessions

abbrev pub WorkersTell : List WorkerView → List Noted → Type 0
WorkersTell workers notes = All (λ (w : WorkerView). w.list ≡ part_of (caller.Worker w.number) notes) workers

-- one of these made the note
abbrev pub is_known : List SessionView → List WorkerView → Noted → Bool
is_known sessions workers n =
    list_any (λ (s : SessionView). same_caller n.caller (caller.Session s.number)) sessions
    || list_any (λ (w : WorkerView). same_caller n.caller (caller.Worker w.number)) workers

-- The lists are the notes: each caller's list is the part with its name, in order, and no note is anyone else's.
pub record IsAnswered (sessions : List SessionView) (workers : List WorkerView) (notes : List Noted) : Type 0 where
  pub by_sessions : SessionsTell sessions notes
  pub by_workers : WorkersTell workers notes
  pub known : All (λ (n : Noted). is_known sessions workers n ≡ true) notes

abbrev pub has_session : List SessionView → ℕ → Bool
has_session sessions k = list_any (λ (s : SessionView). s.number == k) sessions

abbrev pub has_worker : List WorkerView → ℕ → Bool
has_worker workers k = list_any (λ (w : WorkerView). w.number == k) workers

-- The callers are this many sessions and this many workers, numbered from 0 on. So none that a desk opened is missing where it opened
-- as many.
pub record AreAll (opened_sessions opened_workers : ℕ) (sessions : List SessionView) (workers : List WorkerView) : Type 0 where
  pub as_many_sessions : length sessions ≡ opened_sessions
  pub as_many_workers : length workers ≡ opened_workers
  pub sessions_in : (k : ℕ) → k < opened_sessions → has_session sessions k ≡ true
  pub workers_in : (k : ℕ) → k < opened_workers → has_worker workers k ≡ true

-- All callers stand in one history: it is legal, its calls are the notes, it leads to where the book is left, they are all that were
-- opened in it, and what each of them has seen is a beginning of it.
pub record StandInOne (opening : Machine) (sessions : List SessionView) (workers : List WorkerView) (notes : List Noted) (left : Machine) : Type 0 where
  pub events : List Happened
  pub legal : IsLegalFrom opening events
  pub calls : notes_of events ≡ notes
  pub leads : state_after opening events ≡ left
  pub callers : AreAll (opened_sessions events) (opened_workers events) sessions workers
  pub by_sessions : All (λ (s : SessionView). (s.front.kept ≡ true) × IsPrefix s.front.events events) sessions
  pub by_workers : All (λ (w : WorkerView). (w.front.kept ≡ true) × IsPrefix w.front.events events) workers

-- The history is kept, what each caller has seen begins it, and the lists are its notes.
pub record IsTheirs (all : Seen) (sessions : List SessionView) (workers : List WorkerView) : Type 0 where
  pub kept : all.kept ≡ true
  pub sessions_begin : All (λ (s : SessionView). Begins s.front all) sessions
  pub workers_begin : All (λ (w : WorkerView). Begins w.front all) workers
  pub lists : IsAnswered sessions workers (notes_of all.events)

-- the callers are all that were opened in the history
abbrev pub AreOpened : Seen → List SessionView → List WorkerView → Type 0
AreOpened all sessions workers = all.kept ≡ true → AreAll (opened_sessions all.events) (opened_workers all.events) sessions workers

-- What speaks against closing: that callers are missing, or else that the history is not theirs; each exactly where it holds.
abbrev pub SpeaksAgainst : Type 0 → Type 0 → Option CloseFault → Type 0
SpeaksAgainst AreIn Answered None = AreIn × Answered
SpeaksAgainst AreIn Answered (Some faults.StillOut) = AreIn → ⊥
SpeaksAgainst AreIn Answered (Some faults.Mismatch) = AreIn × (Answered → ⊥)

-- the desk stays open for this fault, beside all of its history
abbrev pub StaysFor : CloseFault → Option Seen → List SessionView → List WorkerView → Type 0
StaysFor fault closed sessions workers =
    (all : Seen) × (closed ≡ Some all) × SpeaksAgainst (AreOpened all sessions workers) (IsTheirs all sessions workers) (Some fault)
