-- The logs of the versions over a history.
use Rattle.std.specs.Prelude.{◌≡◌, ℕ, ◌≤◌, List, [], ◌∷◌, ◌++◌, Option, Some, None}
use Rattle.std.specs.List.{filter_map}
use Rattle.swf_text.specs.Entry.{LogEntry}
use Rattle.job_table.specs.Edit.{LogEdit, applied, fault_of, log_at}
use Rattle.book_machine.specs.Call.{BookCall, Edit}
use Rattle.book_machine.specs.declared.reply.Reply.{Reply}
use Rattle.book_machine.specs.declared.reply.Reply.TheVariants as reply
use Rattle.book_machine.specs.Machine.{opened, version}
use Rattle.book_machine.specs.History.{Noted, IsLegal, after_all}

-- each of these edits was accepted by the log after those before it
abbrev pub WereAccepted : List LogEntry → List LogEdit → Type 0
WereAccepted log [] = Unit {0}
WereAccepted log (edit ∷ edits) = (fault_of edit log ≡ None) × WereAccepted (applied edit log) edits

-- a version is made by an edit that is accepted, and by nothing else
abbrev pub EachVersionWasAccepted : Type 0
EachVersionWasAccepted =
    (log : List LogEntry) (notes : List Noted) → IsLegal (opened log) notes → WereAccepted log (after_all (opened log) notes).edits

-- the edit of a call that was answered with its version
abbrev pub edit_outcome : BookCall → Reply → Option LogEdit
edit_outcome (Edit edit) (reply.Edited v) = Some edit
edit_outcome call outcome = None

-- the notes alone tell the edits, and so every version's log
abbrev pub TheEditsAreThoseNoted : Type 0
TheEditsAreThoseNoted =
    (log : List LogEntry) (notes : List Noted) → IsLegal (opened log) notes → (after_all (opened log) notes).edits ≡ filter_map (λ n. edit_outcome n.call n.reply) notes

-- whatever is called later, a version's log stays what it was
abbrev pub EachVersionKeepsItsLog : Type 0
EachVersionKeepsItsLog =
    (log : List LogEntry) (notes more : List Noted) (v : ℕ) → IsLegal (opened log) (notes ++ more) → v ≤ version (after_all (opened log) notes)
    → log_at log (after_all (opened log) (notes ++ more)).edits v ≡ log_at log (after_all (opened log) notes).edits v
