-- Histories: who called what, and what was replied.
use Rattle.std.specs.Prelude.{◌≡◌, ◌<◌, List, [], ◌∷◌}
use Rattle.book_machine.specs.declared.caller.Caller.{Caller}
use Rattle.book_machine.specs.declared.reply.Reply.{Reply}
use Rattle.book_machine.specs.Call.{BookCall}
use Rattle.book_machine.specs.Machine.{Machine, reply_to, after, note_limit}

-- a call of a history
pub record Noted : Type 0 where
  pub caller : Caller
  pub call : BookCall
  pub reply : Reply

-- each reply is the machine's, and no note comes over the limit
abbrev pub IsLegal : Machine → List Noted → Type 0
IsLegal m [] = Unit {0}
IsLegal m (note ∷ notes) = (m.notes < note_limit) × (note.reply ≡ reply_to note.call m) × IsLegal (after note.call m) notes

-- the state after these calls
abbrev pub after_all : Machine → List Noted → Machine
after_all m [] = m
after_all m (note ∷ notes) = after_all (after note.call m) notes
