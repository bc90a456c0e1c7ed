-- What is saved is read back, and is the same when it is opened and saved again.
use Rattle.std.specs.Prelude.{◌≡◌, ℕ, ◌<◌, List, length, Option, Ok}
use Rattle.std.specs.List.{AllByRecursion}
use Rattle.swf_text.specs.Comment.{IsComment}
use Rattle.swf_text.specs.Entry.{HasFields, LogEntry}
use Rattle.swf_text.specs.Log.{log_of}
use Rattle.swf_text.specs.Text.{LogText, lines}
use Rattle.swf_text.specs.Grammar.{IsText}
use Rattle.swf_text.specs.Writing.{text_bytes}
use Rattle.job_table.specs.Table.{IsTable}
use Rattle.scenarios.specs.ScenarioList.{Listing, IsListing}
use Rattle.commands.specs.Opening.{kept, opened, saved}

-- the log that is saved of the comments of a log that was opened, the entries of a table, and a list of scenarios
abbrev pub saved_of : List (List ℕ) → List LogEntry → Listing → LogText
saved_of comments entries list = saved (kept comments) entries list

-- where the comments of the opened log are sound, so are those that are saved: they are read back as they are written
abbrev pub SavesSoundComments : Type 0
SavesSoundComments =
    (comments : List (List ℕ)) (entries : List LogEntry) (list : Listing) →
    AllByRecursion IsComment comments → IsListing list → AllByRecursion IsComment (saved_of comments entries list).comments

-- opened and saved again it is the same log, whatever machine is named beside it
abbrev pub IsSavedAgain : LogText → Type 0
IsSavedAgain text =
    (procs : Option ℕ) → (list : Listing) × (opened procs text.comments ≡ Ok list) × (saved_of text.comments (log_of text.entries) list ≡ text)

-- so it is with each log that is saved with a scenario or more
abbrev pub SavesTheSame : Type 0
SavesTheSame =
    (comments : List (List ℕ)) (entries : List LogEntry) (list : Listing) →
    IsTable entries → IsListing list → 0 < length list.scenarios → IsSavedAgain (saved_of comments entries list)

-- bytes that are a log, opened and saved as it is, with this machine named beside it, give these other bytes
pub record IsSavedAs (procs : Option ℕ) (bytes saved_bytes : List ℕ) : Type 0 where
  pub read : LogText
  pub is_text : IsText (lines bytes) read
  pub list : Listing
  pub opened_with : opened procs read.comments ≡ Ok list
  pub written : saved_bytes ≡ text_bytes (saved_of read.comments (log_of read.entries) list)

-- these bytes, opened and saved again, are the same, and no others, whatever machine is named beside them
abbrev pub AreSavedAgain : List ℕ → Type 0
AreSavedAgain bytes =
    (procs : Option ℕ) → IsSavedAs procs bytes bytes × ((again : List ℕ) → IsSavedAs procs bytes again → again ≡ bytes)

-- so it is with the bytes that are saved of a log after any edits: of the entries of any table, each with its eighteen
-- values, of sound comments, and of a list with a scenario or more
abbrev pub SavesEditedBytes : Type 0
SavesEditedBytes =
    (comments : List (List ℕ)) (entries : List LogEntry) (list : Listing) →
    AllByRecursion IsComment comments → AllByRecursion HasFields entries → IsTable entries →
    IsListing list → 0 < length list.scenarios → AreSavedAgain (text_bytes (saved_of comments entries list))

-- and with what is saved of bytes that are opened
abbrev pub SavesTheSameBytes : Type 0
SavesTheSameBytes = (procs : Option ℕ) (bytes once : List ℕ) → IsSavedAs procs bytes once → AreSavedAgain once
