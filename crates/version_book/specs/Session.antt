-- One analyst's session with a book: a call is a step of the book machine.
use Rattle.std.specs.Prelude.{◌≡◌, ℕ, ◌<◌, max}
use Rattle.book_machine.specs.declared.reply.Reply.{Reply}
use Rattle.book_machine.specs.declared.reply.Reply.TheVariants as reply
use Rattle.book_machine.specs.Call.{BookCall}
use Rattle.book_machine.specs.Machine.{Machine, reply_to, after, note_limit}
use Rattle.version_book.specs.Steps.{Answer, full, memory, outcome}

-- the book's state, and the greatest version that an edit or a view returned to the session
pub record Session : Type 0 where
  pub machine : Machine
  pub seen : ℕ

-- what the session has seen after a reply
abbrev pub seen_by : ℕ → Reply → ℕ
seen_by seen (reply.Edited version) = max seen version
seen_by seen (reply.Shown version) = max seen version
seen_by seen other = seen

-- and after a result
abbrev pub seen_of : ℕ → Answer → ℕ
seen_of seen full = seen
seen_of seen memory = seen
seen_of seen (outcome r) = seen_by seen r

-- the book noted the call, and replied
pub record IsStep (old : Session) (call : BookCall) (outcome : Reply) (new : Session) : Type 0 where
  pub capacity : old.machine.notes < note_limit
  pub replied : outcome ≡ reply_to call old.machine
  pub machine : new.machine ≡ after call old.machine
  pub seen : new.seen ≡ seen_by old.seen outcome
