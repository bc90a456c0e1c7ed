-- What is written of a log and a conversation on it.
use Rattle.std.specs.Prelude.{ℕ, List, Option, Result, Ok, Err}
use Rattle.std.specs.Io.KnownBytes.{Keeps}
use Rattle.swf_text.specs.Entry.{LogEntry}
use Rattle.scenarios.specs.ScenarioList.{Listing}
use Rattle.scripts.specs.Live.{Talks}
use Rattle.scripts.specs.Transcript.{begun}
use Rattle.scripts.specs.declared.live.LiveFault.{LiveFault}
use Rattle.scripts.specs.declared.live.LiveFault.TheVariants as live
use Rattle.easybook.specs.Opened.{IsOpened}
use Rattle.easybook.specs.Plain.{IsFaultOf}
use Rattle.easybook.specs.declared.fault.ProgramFault.{ProgramFault}
use Rattle.easybook.specs.declared.fault.ProgramFault.TheVariants as faults

-- A conversation was held, from the book on that begins with the log's jobs and its scenarios. What it left of the known
-- bytes, a buffer may have read ahead.
pub record IsHeld {X : Type 0} (A : Type 0) (log : List ℕ) (procs : Option ℕ) (known old new : Option (List ℕ)) (result : Result X LiveFault) : Type 0 where
  pub comments : List (List ℕ)
  pub table : List LogEntry
  pub scenarios : Listing
  pub is_opened : IsOpened log procs comments table scenarios
  pub left : Option (List ℕ)
  pub talks : Talks A comments (begun table scenarios.scenarios) known left old new result

-- What was written, by the result: a transcript of all lines up to the first `quit`; where the reader failed, one of all
-- lines that were read by then; where the writer failed, the responses to all lines except the one that was read last, and a
-- beginning of its response. Other faults come before the first line.
abbrev pub RunsLive : {X : Type 0} → Type 0 → List ℕ → Option ℕ → Option (List ℕ) → Option (List ℕ) → Option (List ℕ) → Result X ProgramFault → Type 0
RunsLive A log procs known old new (Ok x) = IsHeld A log procs known old new (Ok x)
RunsLive {X = X} A log procs known old new (Err faults.Read) = IsHeld {X = X} A log procs known old new (Err live.Read)
RunsLive {X = X} A log procs known old new (Err faults.Write) = IsHeld {X = X} A log procs known old new (Err live.Write)
RunsLive A log procs known old new (Err fault) = IsFaultOf log procs fault × Keeps old new
