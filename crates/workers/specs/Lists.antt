-- The callers' own lists, and the parts of a journal with which they are compared.
use Rattle.std.specs.Prelude.{◌≡◌, ◌==◌, ℕ, Bool, false, List, [], ◌∷◌, ◌++◌, map, filter, Option, None, Some}
use Rattle.std.specs.List.{slice_get}
use Rattle.std.specs.Option.{option_map}
use Rattle.book_machine.specs.declared.caller.Caller.{Caller}
use Rattle.book_machine.specs.declared.caller.Caller.TheVariants as caller
use Rattle.book_machine.specs.declared.reply.Reply.{Reply}
use Rattle.book_machine.specs.Call.{BookCall}
use Rattle.book_machine.specs.History.{Noted}
use Rattle.book_machine.specs.Noted.{call_of}
use Rattle.version_book.specs.Steps.{Answer, full, memory, outcome}
use Rattle.workers.specs.declared.listed_call.ListedCall.{ListedCall}

-- a call that its caller made, and the reply that it got
pub record ListedView : Type 0 where
  pub call : BookCall
  pub reply : Reply

abbrev pub listed_view : BookCall → Reply → ListedView
listed_view call reply = record { call = call; reply = reply }

-- the same, without the memory that holds its arguments
abbrev pub listed_of : {A : Type 0} → ListedCall A → ListedView
listed_of e = listed_view (call_of e.call) e.reply

-- what a note says, but for the caller
abbrev pub listed_by : Noted → ListedView
listed_by note = listed_view note.call note.reply

-- session k and worker k are two callers
abbrev pub same_caller : Caller → Caller → Bool
same_caller (caller.Session k) (caller.Session m) = k == m
same_caller (caller.Session k) (caller.Worker m) = false
same_caller (caller.Worker k) (caller.Session m) = false
same_caller (caller.Worker k) (caller.Worker m) = k == m

-- the part of the notes with a caller's name, in order
abbrev pub part_of : Caller → List Noted → List ListedView
part_of who notes = map listed_by (filter (λ (n : Noted). same_caller n.caller who) notes)

-- what a list gains by a call: the call with its reply, if there is one
abbrev pub gained : BookCall → Option Reply → List ListedView
gained call None = []
gained call (Some reply) = listed_view call reply ∷ []

-- the reply of the note behind this many notes, if there is one
abbrev pub reply_behind : ℕ → List Noted → Option Reply
reply_behind n notes = option_map (λ (note : Noted). note.reply) (slice_get notes n)

-- The list gained exactly this call with its reply. At JournalFull and Memory it stays.
abbrev pub Gains : List ListedView → List ListedView → BookCall → Answer → Type 0
Gains old new call full = new ≡ old
Gains old new call memory = new ≡ old
Gains old new call (outcome reply) = new ≡ old ++ listed_view call reply ∷ []
