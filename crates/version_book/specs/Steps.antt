-- What a call does with a book: a step of the machine, or nothing.
use Rattle.std.specs.Prelude.{◌≡◌, ℕ, ◌<◌, ◌≤◌, ◌⊎◌, List, [], ◌∷◌, ◌++◌, length, find, Option, None, Some}
use Rattle.swf_text.specs.Entry.{LogEntry}
use Rattle.scenarios.specs.ScenarioList.{empty}
use Rattle.book_machine.specs.declared.caller.Caller.{Caller}
use Rattle.book_machine.specs.declared.reply.Reply.{Reply}
use Rattle.book_machine.specs.declared.reply.Reply.TheVariants as replies
use Rattle.book_machine.specs.Call.{BookCall}
use Rattle.book_machine.specs.Machine.{reply_to, changed_by, after, note_limit}
use Rattle.book_machine.specs.History.{Noted}
use Rattle.checkpoints.specs.RunView.{RunView}
use Rattle.tasks.specs.Published.{PublishedView}
use Rattle.tasks.specs.Tickets.{TicketView, has_number}
use Rattle.version_book.specs.declared.refusal.Refusal.{Refusal}
use Rattle.version_book.specs.declared.refusal.Refusal.TheVariants as why
use Rattle.version_book.specs.Book.{StateView, BookView, machine_at, machine_of}
use Rattle.version_book.specs.Lookups.{published_for, publishing, with_change}
use Rattle.version_book.specs.Sound.{IsSound}

-- what a call returns: the journal is full, a growth was refused, or the reply that is noted
pub data Answer : Type 0 where
  full : Answer
  memory : Answer
  outcome : (reply : Reply) → Answer

-- why no note is taken, where there are so many
abbrev pub IsNoNote : {F : Type 0} → ℕ → Refusal F → Type 0
IsNoNote notes why.JournalFull = note_limit ≤ notes
IsNoNote notes (why.Fault fault) = ⊥
IsNoNote notes why.Memory = notes < note_limit

-- the reply, if the call is noted
abbrev pub reply_in : Answer → Option Reply
reply_in full = None
reply_in memory = None
reply_in (outcome reply) = Some reply

abbrev pub note_of : Caller → BookCall → Reply → Noted
note_of who call reply = record { caller = who; call = call; reply = reply }

-- the note of a call, if it is noted
abbrev pub notes_of : Caller → BookCall → Option Reply → List Noted
notes_of who call None = []
notes_of who call (Some reply) = note_of who call reply ∷ []

-- Each run that is published was published for its scenario before, except one of the version that is replied as finished.
abbrev pub KeepsRuns : StateView → StateView → Reply → Type 0
KeepsRuns old new answer =
    (id : ℕ) (p : PublishedView) → published_for id new.shown ≡ Some p → (published_for id old.shown ≡ Some p) ⊎ (answer ≡ replies.Finished p.version)

-- Where the journal has 1,000,000 notes the call answers so, and otherwise a refused growth, and nothing changes; or it
-- answers exactly what the machine replies, the book is then the machine's next state, and the journal has this note more.
-- What is published stays the same run, but for what a finish publishes.
abbrev pub Answers : BookView → BookView → Caller → BookCall → Answer → Type 0
Answers old new who call full = (length old.journal ≡ note_limit) × (new ≡ old)
Answers old new who call memory = (length old.journal < note_limit) × (new ≡ old)
Answers old new who call (outcome reply) =
    (length old.journal < note_limit) × (reply ≡ reply_to call (machine_of old)) × (machine_of new ≡ after call (machine_of old))
    × (new.journal ≡ old.journal ++ note_of who call reply ∷ []) × (new.state.spacing ≡ old.state.spacing) × KeepsRuns old.state new.state reply

-- ---- the same, apart from the journal

-- a step of the machine, however many notes there are
pub record IsStep (old new : StateView) (call : BookCall) (answer : Reply) : Type 0 where
  pub reply : (n : ℕ) → answer ≡ reply_to call (machine_at n old)
  pub state : (n : ℕ) → machine_at n new ≡ changed_by call (machine_at n old)
  pub spacing : new.spacing ≡ old.spacing
  pub runs : KeepsRuns old new answer
  pub sound : IsSound new

abbrev pub Does : StateView → StateView → BookCall → Answer → Type 0
Does old new call full = ⊥
Does old new call memory = new ≡ old
Does old new call (outcome reply) = IsStep old new call reply

-- The ticket of this number stood, and its scenario now shows this run at this version; all else that is shown is as it was.
pub record Publishes (old new : StateView) (number version : ℕ) (run : RunView) : Type 0 where
  pub ticket : TicketView
  pub stood : find (has_number number) old.tickets ≡ Some ticket
  pub shown : new.shown ≡ with_change ticket.id (publishing (record { version = version; run = run })) old.shown

-- a log that was just opened: version 0, without scenarios
abbrev pub opening_state : List LogEntry → ℕ → StateView
opening_state log spacing = record { spacing = spacing; opening = log; current = log; edits = []; listing = empty; shown = []; tickets = []; next_ticket = 1 }
