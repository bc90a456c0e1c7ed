-- What a session with a book of its own may be answered where memory may be refused, and why a view shows nothing.
use Rattle.std.specs.Prelude.{◌≡◌, ℕ, List, true, ◌⊎◌}
use Rattle.scenarios.specs.ScenarioList.{Listed}
use Rattle.commands.specs.declared.command.Command.{Command}
use Rattle.book_machine.specs.declared.reply.Reply.{Reply}
use Rattle.book_machine.specs.declared.reply.Reply.TheVariants as reply
use Rattle.book_machine.specs.Call.{BookCall, View}
use Rattle.book_machine.specs.Machine.{Machine, note_limit}
use Rattle.version_book.specs.declared.faults.ViewFault.{ViewFault}
use Rattle.version_book.specs.declared.faults.ViewFault.TheVariants as view
use Rattle.version_book.specs.declared.refusal.Refusal.{Refusal}
use Rattle.version_book.specs.declared.refusal.Refusal.TheVariants as why
use Rattle.version_book.specs.Looks.{IsListedAs}
use Rattle.version_book.specs.Session.{Session, IsStep}
use Rattle.scripts.specs.declared.view_report.Report.{Report}
use Rattle.scripts.specs.declared.view_report.Report.TheVariants as report
use Rattle.scripts.specs.Session.{IsCallIf}
use Rattle.scripts.specs.Steps.{AnswersIf, IsDays, IsMadeIf, IsSchedule, IsSideIf, IsTable, IsUsers, IsViewIf}

-- a command that is one call
abbrev pub IsCall : Session → BookCall → (Reply → List ℕ) → List ℕ → Session → Type 0
IsCall old call says text new = IsCallIf true old call says text new

-- a view of a scenario
abbrev pub IsView : Session → (Machine → Listed → ℕ → List ℕ → Type 0) → List ℕ → Session → Listed → Type 0
IsView old report text new s = IsViewIf true old report text new s

-- the scenarios side by side
abbrev pub IsSide : Session → List ℕ → Session → Type 0
IsSide old text new = IsSideIf true old text new

-- a text that is made of the log
abbrev pub IsMade : Session → List ℕ → List ℕ → Session → Type 0
IsMade old made text new = IsMadeIf true old made text new

-- the response to a command
abbrev pub Answers : {A : Type 0} → List (List ℕ) → Session → Command A → List ℕ → Session → Type 0
Answers comments old command text new = AnswersIf true comments old command text new

-- the report of this kind, on a version of the log under a scenario
abbrev pub IsReport : Report → Machine → Listed → ℕ → List ℕ → Type 0
IsReport report.Schedule m s v text = IsSchedule m s v text
IsReport report.Table m s v text = IsTable m s v text
IsReport report.Users m s v text = IsUsers m s v text
IsReport report.Days m s v text = IsDays m s v text

-- nothing is shown: no call was noted, or the book replied why; a listed scenario is there
abbrev pub NotLooked : Refusal ViewFault → Session → ℕ → Session → Type 0
NotLooked why.JournalFull old id new = (old.machine.notes ≡ note_limit) × (new ≡ old)
NotLooked (why.Fault view.NoSuchScenario) old id new = IsStep old (View id old.seen) reply.NoSuchScenario new × ((s : Listed) → IsListedAs old.machine id s → ⊥)
NotLooked (why.Fault view.NotYet) old id new = IsStep old (View id old.seen) reply.NotYet new
NotLooked (why.Fault (view.Behind seen found)) old id new = IsStep old (View id old.seen) (reply.Behind seen found) new
NotLooked why.Memory old id new = new ≡ old

-- no view was noted: the journal is full, or memory was refused
abbrev pub IsUnseen : Refusal ViewFault → Session → Session → Type 0
IsUnseen refusal old new = (new ≡ old) × (((refusal ≡ why.JournalFull) × (old.machine.notes ≡ note_limit)) ⊎ (refusal ≡ why.Memory))
