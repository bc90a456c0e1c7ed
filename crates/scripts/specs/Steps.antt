-- The response to each command, and the state after it. Where `short` is true, out of memory is one more case of each;
-- where it is false, no memory is refused. What lacks this mark has that case.
use Rattle.std.specs.Prelude.{◌≡◌, ℕ, ◌<◌, List, [], ◌∷◌, ◌++◌, length, count_by, None, Some, ◌⊎◌, codes, Bool, true, false}
use Rattle.std.specs.List.{flat_map}
use Rattle.std.specs.Fmt.{decimal}
use Rattle.swf_text.specs.Text.{LogText, is_feed}
use Rattle.swf_text.specs.Writing.{text_bytes}
use Rattle.job_table.specs.Edit.{Insert, Remove, Change}
use Rattle.scenarios.specs.Names.{no_such_scenario_name}
use Rattle.scenarios.specs.Plan.{plan_of}
use Rattle.scenarios.specs.ScenarioList.{Listed, named}
use Rattle.metrics.specs.Tables.{TableRows}
use Rattle.checkpoints.specs.Sums.{IsTablesOf}
use Rattle.report.specs.Pieces.{left}
use Rattle.report.specs.Schedule.{schedule_text}
use Rattle.report.specs.Table.{table_text}
use Rattle.report.specs.Users.{users_text}
use Rattle.report.specs.Days.{days_text}
use Rattle.report.specs.Side.{shown_line}
use Rattle.report.specs.Entries.{log_text}
use Rattle.commands.specs.Opening.{saved}
use Rattle.commands.specs.declared.command.Command.{Command}
use Rattle.commands.specs.declared.command.Command.TheVariants as asks
use Rattle.book_machine.specs.declared.reply.Reply.{Reply}
use Rattle.book_machine.specs.declared.reply.Reply.TheVariants as reply
use Rattle.book_machine.specs.declared.settle_state.SettleState.{SettleState}
use Rattle.book_machine.specs.declared.settle_state.SettleState.TheVariants as settle
use Rattle.book_machine.specs.Call.{Edit, AddScenario, DropScenario, Retry, View}
use Rattle.book_machine.specs.Machine.{Machine, version, current, settled, note_limit}
use Rattle.scripts.specs.Lines.{version_line, settled_line, failed_line, stopped_line, saved_line, bye_line, refused}
use Rattle.scripts.specs.Answers.{edit_says, scenario_says, view_says}
use Rattle.version_book.specs.Settling.{Settles}
use Rattle.version_book.specs.Session.{Session, IsStep}
use Rattle.scripts.specs.Session.{IsRefused, IsFull, IfShort, WantsMemory, IsCallIf}
use Rattle.version_book.specs.Looks.{log_of_version}

-- ---- a scenario by its name

-- the scenario with this name is looked up, without a call
abbrev pub IsNamed : Session → List ℕ → (Listed → Type 0) → List ℕ → Session → Type 0
IsNamed old name follows text new =
    ((named name old.machine.listing.scenarios ≡ None) × IsRefused old no_such_scenario_name text new)
    ⊎ ((s : Listed) × (named name old.machine.listing.scenarios ≡ Some s) × follows s)

-- ---- views

-- the tables of a version's log under a scenario
abbrev pub AreTables : Machine → Listed → ℕ → TableRows → Type 0
AreTables m s v tables = IsTablesOf (log_of_version m v) s.scenario tables

-- the reports on a version: each is that of the second-by-second simulation of the version's log under the scenario
abbrev pub IsSchedule : Machine → Listed → ℕ → List ℕ → Type 0
IsSchedule m s v text = text ≡ schedule_text s.name v (plan_of (log_of_version m v) s.scenario)

abbrev pub IsTable : Machine → Listed → ℕ → List ℕ → Type 0
IsTable m s v text = (tables : TableRows) × AreTables m s v tables × (text ≡ table_text s.name v tables.overall)

abbrev pub IsUsers : Machine → Listed → ℕ → List ℕ → Type 0
IsUsers m s v text = (tables : TableRows) × AreTables m s v tables × (text ≡ users_text s.name v tables.users)

abbrev pub IsDays : Machine → Listed → ℕ → List ℕ → Type 0
IsDays m s v text = (tables : TableRows) × AreTables m s v tables × (text ≡ days_text s.name v tables.days)

-- what is shown is a report, unless memory runs out for it; otherwise why nothing is shown
abbrev pub IsAnswered : Bool → (ℕ → List ℕ → Type 0) → Reply → List ℕ → Type 0
IsAnswered short report (reply.Shown v) text = report v text ⊎ IfShort short (text ≡ refused (codes "Memory"))
IsAnswered short report other text = text ≡ view_says other

-- a view of a scenario, with what the session has seen
abbrev pub IsViewIf : Bool → Session → (Machine → Listed → ℕ → List ℕ → Type 0) → List ℕ → Session → Listed → Type 0
IsViewIf short old report text new s =
    IsFull old text new
    ⊎ (WantsMemory short old text new
    ⊎ ((outcome : Reply) × IsStep old (View s.id old.seen) outcome new × IsAnswered short (report old.machine s) outcome text))

-- ---- scenarios side by side

-- the line of a scenario, by the result of its view
abbrev pub IsSideLine : Machine → Listed → Reply → List ℕ → Type 0
IsSideLine m s (reply.Shown v) line = (tables : TableRows) × AreTables m s v tables × (line ≡ shown_line s.name v tables.overall)
IsSideLine m s reply.NotYet line = line ≡ left 16 s.name ++ codes " not yet\n"
IsSideLine m s (reply.Behind seen found) line = line ≡ left 16 s.name ++ codes " behind\n"
IsSideLine m s other line = ⊥

-- a view of a scenario, with what the session has seen by then
abbrev pub IsSeen : Session → Listed → List ℕ → Session → Type 0
IsSeen old s line new = (outcome : Reply) × IsStep old (View s.id old.seen) outcome new × IsSideLine old.machine s outcome line

-- one view after another
abbrev pub AreSeen : Session → List Listed → List (List ℕ) → Session → Type 0
AreSeen old [] lines new = (lines ≡ []) × (new ≡ old)
AreSeen old (s ∷ scenarios) lines new =
    (next : Session) × (line : List ℕ) × (others : List (List ℕ)) × IsSeen old s line next × AreSeen next scenarios others new × (lines ≡ line ∷ others)

-- how many lines, and the lines
abbrev pub side_of : List (List ℕ) → List ℕ
side_of lines = codes "side scenarios " ++ decimal (length lines) ++ codes "\n" ++ flat_map (λ line. line) lines

-- after some of the views a refusal ends the command; the views before it are noted
abbrev pub IsSideIf : Bool → Session → List ℕ → Session → Type 0
IsSideIf short old text new =
    (front back : List Listed) × (lines : List (List ℕ)) × (old.machine.listing.scenarios ≡ front ++ back) × AreSeen old front lines new
    × (((back ≡ []) × (text ≡ side_of lines))
    ⊎ (((new.machine.notes ≡ note_limit) × (0 < length back) × (text ≡ refused (codes "JournalFull")))
    ⊎ IfShort short (text ≡ refused (codes "Memory"))))

-- ---- settling

-- the response that says how far the scenarios are
abbrev pub settle_line : ℕ → SettleState → List ℕ
settle_line seen settle.Done = settled_line seen
settle_line seen (settle.Failed count) = failed_line count
settle_line seen settle.Waiting = stopped_line

-- all that is due is worked, and the response says how far the scenarios are then
abbrev pub IsSettled : Bool → Session → List ℕ → Session → Type 0
IsSettled short old text new =
    Settles short old.machine new.machine × (new.seen ≡ old.seen) × (text ≡ settle_line old.seen (settled old.seen new.machine))

-- where memory may run out, it was or it wasn't
abbrev pub IsSettledIf : Bool → Session → List ℕ → Session → Type 0
IsSettledIf true old text new = (short : Bool) × IsSettled short old text new
IsSettledIf false old text new = IsSettled false old text new

-- ---- the log

-- nothing changes, and the text is made, unless memory is refused
abbrev pub IsMadeIf : Bool → Session → List ℕ → List ℕ → Session → Type 0
IsMadeIf short old made text new = ((text ≡ made) × (new ≡ old)) ⊎ WantsMemory short old text new

-- how many lines follow, each ended by a line feed, and the lines
abbrev pub with_count : List ℕ → List ℕ
with_count bytes = saved_line (count_by is_feed bytes) ++ bytes

abbrev pub saved_text : LogText → List ℕ
saved_text text = with_count (text_bytes text)

-- ---- the commands

-- From the old state, with these kept comments, the response to the command may be this text, and the new state follow.
abbrev pub AnswersIf : {A : Type 0} → Bool → List (List ℕ) → Session → Command A → List ℕ → Session → Type 0
AnswersIf short comments old (asks.Insert entry) text new = IsCallIf short old (Edit (Insert entry)) edit_says text new
AnswersIf short comments old (asks.Remove number) text new = IsCallIf short old (Edit (Remove number)) edit_says text new
AnswersIf short comments old (asks.Change number place value) text new = IsCallIf short old (Edit (Change number place value)) edit_says text new
AnswersIf short comments old (asks.Scenario name scenario) text new = IsCallIf short old (AddScenario name scenario) (scenario_says name) text new
AnswersIf short comments old (asks.Drop name) text new = IsCallIf short old (DropScenario name) (scenario_says name) text new
AnswersIf short comments old (asks.Retry name) text new = IsNamed old name (λ s. IsCallIf short old (Retry s.id) (scenario_says name) text new) text new
AnswersIf short comments old asks.Settle text new = IsSettledIf short old text new
AnswersIf short comments old (asks.Schedule name) text new = IsNamed old name (IsViewIf short old IsSchedule text new) text new
AnswersIf short comments old (asks.Table name) text new = IsNamed old name (IsViewIf short old IsTable text new) text new
AnswersIf short comments old (asks.Users name) text new = IsNamed old name (IsViewIf short old IsUsers text new) text new
AnswersIf short comments old (asks.Days name) text new = IsNamed old name (IsViewIf short old IsDays text new) text new
AnswersIf short comments old asks.Side text new = IsSideIf short old text new
AnswersIf short comments old (asks.Log name) text new =
    IsNamed old name (λ s. IsMadeIf short old (log_text s.name (version old.machine) (current old.machine) s.scenario) text new) text new
AnswersIf short comments old asks.Save text new = IsMadeIf short old (saved_text (saved comments (current old.machine) old.machine.listing)) text new
AnswersIf short comments old asks.Version text new = (text ≡ version_line (version old.machine)) × (new ≡ old)
AnswersIf short comments old asks.Quit text new = (text ≡ bye_line) × (new ≡ old)
