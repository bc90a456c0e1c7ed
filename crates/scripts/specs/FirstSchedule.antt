-- The transcript of a script that settles a log and asks for the schedule of its first scenario.
use Rattle.std.specs.Prelude.{◌≡◌, ℕ, List, [], ◌∷◌, ◌++◌, Option, Some, Ok, slice_get, codes}
use Rattle.swf_text.specs.Entry.{LogEntry}
use Rattle.swf_text.specs.Text.{lines}
use Rattle.scenarios.specs.Plan.{plan_of}
use Rattle.scenarios.specs.ScenarioList.{Listed, Listing}
use Rattle.commands.specs.Opening.{opened}
use Rattle.report.specs.Schedule.{schedule_text}
use Rattle.scripts.specs.Lines.{settled_line}
use Rattle.scripts.specs.Transcript.{IsUnrefused, begun}

-- the two lines `settle` and `schedule NAME`
abbrev pub settle_and_schedule : List ℕ → List (List ℕ)
settle_and_schedule name = codes "settle" ∷ (codes "schedule " ++ name) ∷ []

-- Where no memory is refused, these two lines, on the book of a log with the scenarios that it is opened with, yield
-- `settled 0` and the schedule of the first scenario.
abbrev pub SchedulesTheFirst : Type 0 → Type 0
SchedulesTheFirst A =
    (log : List LogEntry) (procs : Option ℕ) (outcome comments : List (List ℕ)) (scenarios : Listing) (first : Listed) (script : List ℕ)
    → opened procs outcome ≡ Ok scenarios → slice_get scenarios.scenarios 0 ≡ Some first → lines script ≡ settle_and_schedule first.name
    → IsUnrefused A comments (begun log scenarios.scenarios) script (settled_line 0 ++ schedule_text first.name 0 (plan_of log first.scenario))
