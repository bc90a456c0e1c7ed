-- What is written of a log and a script that one session works alone.
use Rattle.std.specs.Prelude.{◌≡◌, ℕ, ◌<◌, ◌≤◌, List, length, take, Option, IfSome, Result, Ok, Err, ◌⊎◌}
use Rattle.std.specs.Io.KnownBytes.{Appends, Keeps}
use Rattle.swf_text.specs.Entry.{LogEntry}
use Rattle.scenarios.specs.ScenarioList.{Listing}
use Rattle.scripts.specs.Transcript.{IsTranscriptOf, begun}
use Rattle.easybook.specs.Opened.{IsOpened}
use Rattle.easybook.specs.Plain.{IsFaultOf, log_limit}
use Rattle.easybook.specs.declared.fault.ProgramFault.{ProgramFault}
use Rattle.easybook.specs.declared.fault.ProgramFault.TheVariants as faults

-- a script has at most this many bytes
abbrev pub script_limit : ℕ
script_limit = 16777216

-- the log is opened with some scenarios
abbrev pub CanBeOpened : List ℕ → Option ℕ → Type 0
CanBeOpened log procs = (comments : List (List ℕ)) × (table : List LogEntry) × (scenarios : Listing) × IsOpened log procs comments table scenarios

-- the text is a transcript of the script, from the book on that begins with the log's jobs and its scenarios
pub record IsAnswered (A : Type 0) (log : List ℕ) (procs : Option ℕ) (script text : List ℕ) : Type 0 where
  pub comments : List (List ℕ)
  pub table : List LogEntry
  pub scenarios : Listing
  pub is_opened : IsOpened log procs comments table scenarios
  pub within : length script ≤ script_limit
  pub transcript : IsTranscriptOf A comments (begun table scenarios.scenarios) script text

-- a transcript of a script that is all that the reader has
abbrev pub IsWorked : Type 0 → List ℕ → Option ℕ → Option (List ℕ) → List ℕ → Type 0
IsWorked A log procs known text = (script : List ℕ) × IfSome known (λ all. script ≡ all) × IsAnswered A log procs script text

-- the log has too many bytes, or it is opened and the script has
abbrev pub IsTooLong : List ℕ → Option ℕ → Option (List ℕ) → Type 0
IsTooLong log procs known = (log_limit < length log) ⊎ (CanBeOpened log procs × IfSome known (λ all. script_limit < length all))

-- What was written, by the result: a transcript of the log and the script, or where the writer failed a beginning of
-- one, or nothing. A fault of the log comes before those of the script; out of memory says nothing of either.
abbrev pub RunsAlone : {X : Type 0} → Type 0 → List ℕ → Option ℕ → Option (List ℕ) → Option (List ℕ) → Option (List ℕ) → Result X ProgramFault → Type 0
RunsAlone A log procs known old new (Ok x) = (text : List ℕ) × IsWorked A log procs known text × Appends old new text
RunsAlone A log procs known old new (Err faults.Write) = (text : List ℕ) × IsWorked A log procs known text × ((n : ℕ) × Appends old new (take n text))
RunsAlone A log procs known old new (Err faults.TooLong) = IsTooLong log procs known × Keeps old new
RunsAlone A log procs known old new (Err faults.Read) = CanBeOpened log procs × Keeps old new
RunsAlone A log procs known old new (Err fault) = IsFaultOf log procs fault × Keeps old new
