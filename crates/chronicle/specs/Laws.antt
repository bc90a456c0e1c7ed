-- What beginnings of a history tell of it.
use Rattle.std.specs.Prelude.{◌≡◌, List, ◌++◌}
use mathlib.Core.List.{IsPrefix}
use Rattle.book_machine.specs.Machine.{Machine}
use Rattle.chronicle.specs.Events.{Happened, notes_of, IsLegalFrom, state_after}

-- a beginning of a legal history is legal; the rest is legal from the state after it, and leads where the whole leads
abbrev pub EachBeginningLeadsOn : Type 0
EachBeginningLeadsOn =
    (opening : Machine) (events more : List Happened) → IsLegalFrom opening (events ++ more)
    → IsLegalFrom opening events × IsLegalFrom (state_after opening events) more × (state_after opening (events ++ more) ≡ state_after (state_after opening events) more)

-- the calls of a beginning are a beginning of the calls
abbrev pub NotesBeginToo : Type 0
NotesBeginToo = (events more : List Happened) → IsPrefix events more → IsPrefix (notes_of events) (notes_of more)
