-- A log that is opened: its jobs, its scenarios, and the comments that are kept.
use Rattle.std.specs.Prelude.{◌≡◌, ℕ, ◌≤◌, List, length, Option, Ok}
use Rattle.swf_text.specs.Entry.{LogEntry}
use Rattle.swf_text.specs.Text.{LogText, lines}
use Rattle.swf_text.specs.Grammar.{IsText}
use Rattle.swf_text.specs.Log.{log_of}
use Rattle.scenarios.specs.ScenarioList.{Listing}
use Rattle.commands.specs.Opening.{kept, opened}
use Rattle.easybook.specs.Plain.{log_limit}

-- The log is a text. Its comments and the machine that is named beside it name these scenarios; the other comments are kept,
-- and its entries are in the order of a log.
pub record IsOpened (log : List ℕ) (procs : Option ℕ) (comments : List (List ℕ)) (table : List LogEntry) (scenarios : Listing) : Type 0 where
  pub within : length log ≤ log_limit
  pub read : LogText
  pub is_text : IsText (lines log) read
  pub opened_with : opened procs read.comments ≡ Ok scenarios
  pub kept_comments : comments ≡ kept read.comments
  pub arranged : table ≡ log_of read.entries
