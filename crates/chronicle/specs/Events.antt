-- What happens at a desk, event after event, and which histories of it are legal.
use Rattle.std.specs.Prelude.{◌≡◌, ◌<◌, List, Option, None, Some}
use Rattle.std.specs.List.{filter_map}
use Rattle.book_machine.specs.declared.caller.Caller.{Caller}
use Rattle.book_machine.specs.Machine.{Machine, reply_to, note_limit}
use Rattle.book_machine.specs.History.{Noted, IsLegal, after_all}

-- a call was noted, a caller was opened, or the desk was stopped
pub data Happened : Type 0 where
  Called : (note : Noted) → Happened
  Opened : (who : Caller) → Happened
  Stopped : Happened

-- the note of an event, if it is a call
abbrev pub note_in : Happened → Option Noted
note_in (Called note) = Some note
note_in (Opened who) = None
note_in Stopped = None

-- the calls, in order
abbrev pub notes_of : List Happened → List Noted
notes_of events = filter_map note_in events

-- the calls are a legal history of the machine from this state on
abbrev pub IsLegalFrom : Machine → List Happened → Type 0
IsLegalFrom opening events = IsLegal opening (notes_of events)

-- the state of the machine after these events
abbrev pub state_after : Machine → List Happened → Machine
state_after opening events = after_all opening (notes_of events)

-- the machine accepts the note in this state: there is capacity for one more, and the reply is the machine's
abbrev pub IsAccepted : Machine → Noted → Type 0
IsAccepted m note = (m.notes < note_limit) × (note.reply ≡ reply_to note.call m)
