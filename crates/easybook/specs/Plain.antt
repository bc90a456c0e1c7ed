-- What the plain run returns: the schedule of a log, or why there is none.
use Rattle.std.specs.Prelude.{◌≡◌, ℕ, ◌<◌, ◌≤◌, List, length, take, slice_get, Option, Some, Result, Ok, Err}
use Rattle.std.specs.Io.KnownBytes.{Appends, Keeps}
use Rattle.swf_text.specs.Text.{LogText, lines}
use Rattle.swf_text.specs.Grammar.{IsText, FirstFault}
use Rattle.swf_text.specs.Log.{log_of}
use Rattle.scenarios.specs.ScenarioList.{Listed, Listing}
use Rattle.scenarios.specs.Plan.{Plan, plan_of}
use Rattle.commands.specs.Opening.{opened}
use Rattle.commands.specs.declared.opening_fault.OpenTextFault.{OpenTextFault}
use Rattle.commands.specs.declared.opening_fault.OpenTextFault.TheVariants as openings
use Rattle.easybook.specs.declared.fault.ProgramFault.{ProgramFault}
use Rattle.easybook.specs.declared.fault.ProgramFault.TheVariants as faults
use Rattle.report.specs.Schedule.{schedule_text, HasALineForEachJob}

-- a log has at most this many bytes
abbrev pub log_limit : ℕ
log_limit = 1073741824

-- The text is the schedule of the log's first scenario: that of the simulation, second by second, of the log's plan
-- under it, with as many lines behind its heading as the plan has jobs. The scenarios are those that the log is opened with.
pub record IsScheduleOf (log : List ℕ) (procs : Option ℕ) (text : List ℕ) : Type 0 where
  pub within : length log ≤ log_limit
  pub read : LogText
  pub is_text : IsText (lines log) read
  pub scenarios : Listing
  pub opened_with : opened procs read.comments ≡ Ok scenarios
  pub first : Listed
  pub is_first : slice_get scenarios.scenarios 0 ≡ Some first
  pub schedule : text ≡ schedule_text first.name 0 (plan_of (log_of read.entries) first.scenario)
  pub lines_of_jobs : HasALineForEachJob first.name 0 (plan_of (log_of read.entries) first.scenario) text

-- the log is a text that is not opened, for this reason
pub record IsNotOpened (log : List ℕ) (procs : Option ℕ) (fault : OpenTextFault) : Type 0 where
  pub within : length log ≤ log_limit
  pub read : LogText
  pub is_text : IsText (lines log) read
  pub refused : opened procs read.comments ≡ Err fault

-- the first fault that applies; out of memory says nothing of the log
abbrev pub IsFaultOf : List ℕ → Option ℕ → ProgramFault → Type 0
IsFaultOf log procs faults.TooLong = log_limit < length log
IsFaultOf log procs (faults.Log fault) = (length log ≤ log_limit) × FirstFault (lines log) fault
IsFaultOf log procs faults.NoMachine = IsNotOpened log procs openings.NoMachine
IsFaultOf log procs faults.BadMachine = IsNotOpened log procs openings.BadMachine
IsFaultOf log procs faults.Memory = Unit {0}
IsFaultOf log procs faults.Read = ⊥
IsFaultOf log procs faults.Write = ⊥
IsFaultOf log procs (faults.Close fault) = ⊥

-- the text is the schedule of a plan under this name, with a line for each of its jobs
pub record IsPrinted (name : List ℕ) (plan : Plan) (text : List ℕ) : Type 0 where
  pub schedule : text ≡ schedule_text name 0 plan
  pub lines_of_jobs : HasALineForEachJob name 0 plan text

-- what is written of the schedule of a plan: all of it, or where the writer failed a beginning of it, or where memory was
-- short nothing
abbrev pub Prints : {X : Type 0} → List ℕ → Plan → Option (List ℕ) → Option (List ℕ) → Result X ProgramFault → Type 0
Prints name plan old new (Ok x) = (text : List ℕ) × IsPrinted name plan text × Appends old new text
Prints name plan old new (Err faults.Write) = (text : List ℕ) × IsPrinted name plan text × ((n : ℕ) × Appends old new (take n text))
Prints name plan old new (Err faults.Memory) = Keeps old new
Prints name plan old new (Err fault) = ⊥

-- what the plain run wrote, by its result: the whole schedule, or where the writer failed a beginning of it, or
-- where there is none nothing
abbrev pub Answers : {X : Type 0} → List ℕ → Option ℕ → Option (List ℕ) → Option (List ℕ) → Result X ProgramFault → Type 0
Answers log procs old new (Ok x) = (text : List ℕ) × IsScheduleOf log procs text × Appends old new text
Answers log procs old new (Err faults.Write) = (text : List ℕ) × IsScheduleOf log procs text × ((n : ℕ) × Appends old new (take n text))
Answers log procs old new (Err fault) = IsFaultOf log procs fault × Keeps old new
