-- One analyst's session with a book: a call is a step of the book machine, or is refused and changes nothing.
use Rattle.std.specs.Prelude.{◌≡◌, ℕ, List, Bool, true, false, ◌⊎◌, codes}
use Rattle.book_machine.specs.declared.reply.Reply.{Reply}
use Rattle.book_machine.specs.Call.{BookCall}
use Rattle.book_machine.specs.Machine.{note_limit}
use Rattle.scripts.specs.Lines.{refused}
use Rattle.version_book.specs.Session.{Session, IsStep}

-- a command is refused for this, and nothing changes
abbrev pub IsRefused : Session → List ℕ → List ℕ → Session → Type 0
IsRefused old why text new = (text ≡ refused why) × (new ≡ old)

-- no call is noted any more
abbrev pub IsFull : Session → List ℕ → Session → Type 0
IsFull old text new = (old.machine.notes ≡ note_limit) × IsRefused old (codes "JournalFull") text new

-- what may happen where memory runs out, and not otherwise
abbrev pub IfShort : Bool → Type 0 → Type 0
IfShort true fact = fact
IfShort false fact = ⊥

-- out of memory, which may be the response to any command that allocates
abbrev pub WantsMemory : Bool → Session → List ℕ → Session → Type 0
WantsMemory short old text new = IfShort short (IsRefused old (codes "Memory") text new)

-- A command that is one call: the text says what was replied. Where `short` is false, no memory is refused.
abbrev pub IsCallIf : Bool → Session → BookCall → (Reply → List ℕ) → List ℕ → Session → Type 0
IsCallIf short old call says text new =
    IsFull old text new ⊎ (WantsMemory short old text new ⊎ ((outcome : Reply) × IsStep old call outcome new × (text ≡ says outcome)))
