-- Where in the history of a desk the response to a caller stands. The history begins in the machine's state `opening`; what is said of a
-- front holds where it is kept.
use Rattle.std.specs.Prelude.{◌≡◌, ◌<◌, ℕ, true, List, [], ◌∷◌, ◌++◌, Some, IfErr, Result, Ok, Err}
use mathlib.Core.List.{IsPrefix}
use Rattle.book_machine.specs.declared.caller.Caller.{Caller}
use Rattle.book_machine.specs.declared.settle_state.SettleState.TheVariants as state
use Rattle.book_machine.specs.Call.{BookCall, Claim, View}
use Rattle.book_machine.specs.Machine.{Machine, note_limit, reply_to, settled}
use Rattle.chronicle.specs.Events.{Happened, Called, Opened, state_after}
use Rattle.chronicle.specs.Fronts.{Seen}
use Rattle.tasks.specs.Published.{PublishedView}
use Rattle.tasks.specs.Tasks.{TaskView}
use Rattle.version_book.specs.declared.faults.ViewFault.{ViewFault}
use Rattle.version_book.specs.declared.reading.Reading.{Reading}
use Rattle.version_book.specs.declared.refusal.Refusal.{Refusal}
use Rattle.version_book.specs.Answers.{claim_answer, view_answer}
use Rattle.version_book.specs.BookRules.{IsTrueOf}
use Rattle.version_book.specs.Reading.{moment_of, present}
use Rattle.version_book.specs.Steps.{Answer, full, memory, outcome, note_of}
use Rattle.workers.specs.Settling.{has_stopped}
use Rattle.workers.specs.declared.settled.Settled.{Settled}
use Rattle.workers.specs.declared.settled.Settled.TheVariants as settled_as
use Rattle.workers.specs.declared.worker.WorkerEnd.{WorkerEnd}
use Rattle.workers.specs.declared.worker.WorkerEnd.TheVariants as ends

-- the caller was opened last
abbrev pub EndsOpened : Caller → Seen → Type 0
EndsOpened who front = front.kept ≡ true → (before : List Happened) × (front.events ≡ before ++ Opened who ∷ [])

-- ---- calls

-- The call was made at this place of the history, and its reply is the machine's there; one that is noted stands behind it.
abbrev pub CalledAt : Machine → List Happened → Caller → BookCall → Answer → List Happened → Type 0
CalledAt opening before who call full after = ((state_after opening before).notes ≡ note_limit) × (after ≡ before)
CalledAt opening before who call memory after = after ≡ before
CalledAt opening before who call (outcome reply) after =
    ((state_after opening before).notes < note_limit) × (reply ≡ reply_to call (state_after opening before)) × (after ≡ before ++ Called (note_of who call reply) ∷ [])

-- the history went on, and then the call was made
abbrev pub Calls : Machine → Seen → Caller → BookCall → Answer → Seen → Type 0
Calls opening old who call answer new =
    new.kept ≡ true → (old.kept ≡ true) × ((before : List Happened) × IsPrefix old.events before × CalledAt opening before who call answer new.events)

-- The history went on, and then the scenario was viewed: what was returned is true of the machine there, and a run that was shown is
-- the second-by-second simulation of the log of its version under the scenario that was listed.
abbrev pub Views : Machine → Seen → Caller → ℕ → ℕ → Result PublishedView (Refusal ViewFault) → Seen → Type 0
Views opening old who id seen shown new =
    new.kept ≡ true → (old.kept ≡ true) × ((before : List Happened) × IsPrefix old.events before
    × CalledAt opening before who (View id seen) (view_answer shown) new.events × IsTrueOf (state_after opening before) id shown)

-- ---- readings

-- the history went on, and at its end this holds of the machine
abbrev pub Reads : Machine → Seen → (Machine → Type 0) → Seen → Type 0
Reads opening old Holds new = new.kept ≡ true → (old.kept ≡ true) × IsPrefix old.events new.events × Holds (state_after opening new.events)

-- the machine stands there
abbrev pub IsCurrentAt : {A : Type 0} → Machine → Reading A → Type 0
IsCurrentAt m r = moment_of r ≡ present m

-- what the wait of a session for its runs may return at this place: how far the scenarios are; or that one is waited for,
-- behind a stop
abbrev pub IsSettledAt : Machine → List Happened → ℕ → Settled → Type 0
IsSettledAt opening events seen settled_as.Done = settled seen (state_after opening events) ≡ state.Done
IsSettledAt opening events seen (settled_as.Failed n) = settled seen (state_after opening events) ≡ state.Failed n
IsSettledAt opening events seen settled_as.Stopped = (settled seen (state_after opening events) ≡ state.Waiting) × (has_stopped events ≡ true)

-- the history went on, and at its end the wait returned this
abbrev pub Settles : Machine → Seen → ℕ → Settled → Seen → Type 0
Settles opening old seen answer new = new.kept ≡ true → (old.kept ≡ true) × IsPrefix old.events new.events × IsSettledAt opening new.events seen answer

-- ---- workers

-- why a worker may end at this place: behind a stop, or at a full journal; where memory was refused nothing is said
abbrev pub MayEndAt : Machine → List Happened → WorkerEnd → Type 0
MayEndAt opening events ends.Stopped = has_stopped events ≡ true
MayEndAt opening events ends.Full = (state_after opening events).notes ≡ note_limit
MayEndAt opening events ends.Memory = Unit {0}

-- the history went on, and at its end the worker went on or ended so
abbrev pub Works : Machine → Seen → Result (Unit {0}) WorkerEnd → Seen → Type 0
Works opening old end new = new.kept ≡ true → (old.kept ≡ true) × IsPrefix old.events new.events × IfErr end (MayEndAt opening new.events)

-- the history went on, up to a stop or past one
abbrev pub Stops : Seen → Seen → Type 0
Stops old new = new.kept ≡ true → (old.kept ≡ true) × IsPrefix old.events new.events × (has_stopped new.events ≡ true)

-- the history went on, at a place of it the worker might end so, and the desk is stopped
abbrev pub Leaves : Machine → Seen → WorkerEnd → Seen → Type 0
Leaves opening old end new = Stops old new × (new.kept ≡ true → (place : List Happened) × IsPrefix old.events place × MayEndAt opening place end × IsPrefix place new.events)

-- the history went on, and then a task was claimed, or the worker ended
abbrev pub Claims : Machine → Seen → Caller → Result TaskView WorkerEnd → Seen → Type 0
Claims opening old who (Ok task) new = Calls opening old who Claim (claim_answer (Ok (Some task))) new
Claims opening old who (Err end) new = Works opening old (Err end) new
