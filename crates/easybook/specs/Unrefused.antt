-- The transcript of a script on a log where no memory is refused.
use Rattle.std.specs.Prelude.{◌≡◌, ℕ, ◌≤◌, List, ◌++◌, length, Option}
use Rattle.swf_text.specs.Entry.{LogEntry}
use Rattle.swf_text.specs.Text.{lines}
use Rattle.scenarios.specs.ScenarioList.{Listing}
use Rattle.scripts.specs.FirstSchedule.{settle_and_schedule}
use Rattle.scripts.specs.Lines.{settled_line}
use Rattle.scripts.specs.Transcript.{IsUnrefused, begun}
use Rattle.easybook.specs.Alone.{IsAnswered, script_limit}
use Rattle.easybook.specs.Opened.{IsOpened}
use Rattle.easybook.specs.Plain.{IsScheduleOf}

-- the text is a transcript of the script in which no memory was refused, from the book on that begins with the log's jobs and
-- its scenarios
pub record IsUnrefusedAnswer (A : Type 0) (log : List ℕ) (procs : Option ℕ) (script text : List ℕ) : Type 0 where
  pub comments : List (List ℕ)
  pub table : List LogEntry
  pub scenarios : Listing
  pub is_opened : IsOpened log procs comments table scenarios
  pub transcript : IsUnrefused A comments (begun table scenarios.scenarios) script text

-- there is at most one such text of the same bytes and options
abbrev pub ThereIsOneAnswer : Type 0 → Type 0
ThereIsOneAnswer A =
    (log : List ℕ) (procs : Option ℕ) (script text other : List ℕ)
    → IsUnrefusedAnswer A log procs script text → IsUnrefusedAnswer A log procs script other → text ≡ other

-- and it is one of those that a script within its limit may have
abbrev pub ItIsAnAnswer : Type 0 → Type 0
ItIsAnAnswer A =
    (log : List ℕ) (procs : Option ℕ) (script text : List ℕ)
    → length script ≤ script_limit → IsUnrefusedAnswer A log procs script text → IsAnswered A log procs script text

-- The plain run's schedule of a log is what the lines `settle` and `schedule NAME` yield, with the name of the log's
-- first scenario, behind the line `settled 0`.
abbrev pub PlainRunsAreScripts : Type 0 → Type 0
PlainRunsAreScripts A =
    (log : List ℕ) (procs : Option ℕ) (text script : List ℕ) (s : IsScheduleOf log procs text)
    → lines script ≡ settle_and_schedule s.first.name → IsUnrefusedAnswer A log procs script (settled_line 0 ++ text)
