-- The response to each command, by the rules of the analyst's calls.
use Rattle.std.specs.Prelude.{◌≡◌, ◌⊎◌, ℕ, ◌+◌, List, [], ◌∷◌, ◌++◌, Option, None, Some, Result, Ok, Err, codes}
use Rattle.job_table.specs.Edit.{Insert, Remove, Change}
use Rattle.scenarios.specs.Names.{no_such_scenario_name}
use Rattle.scenarios.specs.ScenarioList.{Listed, named}
use Rattle.report.specs.Entries.{log_text}
use Rattle.commands.specs.Opening.{saved}
use Rattle.commands.specs.declared.command.Command.{Command}
use Rattle.commands.specs.declared.command.Command.TheVariants as asks
use Rattle.commands.specs.declared.fault.CommandFault.{CommandFault}
use Rattle.commands.specs.Commands.{command_of_line}
use Rattle.book_machine.specs.declared.reply.Reply.{Reply}
use Rattle.book_machine.specs.declared.settle_state.SettleState.{SettleState}
use Rattle.book_machine.specs.Call.{BookCall, Edit, AddScenario, DropScenario, Retry, View}
use Rattle.tasks.specs.Published.{PublishedView}
use Rattle.version_book.specs.Answers.{view_answer}
use Rattle.version_book.specs.Names.{refusal_name, view_fault_name}
use Rattle.version_book.specs.Steps.{Answer}
use Rattle.version_book.specs.declared.faults.ViewFault.{ViewFault}
use Rattle.version_book.specs.declared.faults.ViewFault.TheVariants as view
use Rattle.version_book.specs.declared.refusal.Refusal.{Refusal}
use Rattle.version_book.specs.declared.refusal.Refusal.TheVariants as why
use Rattle.scripts.specs.declared.view_report.Report.{Report}
use Rattle.scripts.specs.declared.view_report.Report.TheVariants as reports
use Rattle.scripts.specs.declared.views.Beside.{Beside}
use Rattle.scripts.specs.declared.views.Beside.TheVariants as beside
use Rattle.scripts.specs.Answers.{edit_says, scenario_says, says_of}
use Rattle.scripts.specs.Lines.{version_line, bye_line, fault_line, refused}
use Rattle.scripts.specs.Looks.{beside_line, unseen_line}
use Rattle.scripts.specs.Reports.{report_text}
use Rattle.version_book.specs.Reading.{Moment}
use Rattle.version_book.specs.Rules.{Rules}
use Rattle.scripts.specs.Steps.{saved_text, settle_line, side_of}

-- ---- responses, as text

-- a report, or no memory for it; or why nothing is shown
abbrev pub IsViewText : Report → List ℕ → Result PublishedView (Refusal ViewFault) → List ℕ → Type 0
IsViewText kind name (Ok p) text = (text ≡ report_text kind name p.version p.run) ⊎ (text ≡ refused (codes "Memory"))
IsViewText kind name (Err refusal) text = text ≡ unseen_line refusal

-- the report on a log under the scenario with this name, if there is one, or no memory for it
abbrev pub IsLogText : List ℕ → Moment → Option Listed → List ℕ → Type 0
IsLogText name m None text = text ≡ refused no_such_scenario_name
IsLogText name m (Some s) text = (text ≡ log_text name m.version m.log s.scenario) ⊎ (text ≡ refused (codes "Memory"))

abbrev pub IsLogOf : List ℕ → Option Moment → List ℕ → Type 0
IsLogOf name None text = text ≡ refused (codes "Memory")
IsLogOf name (Some m) text = IsLogText name m (named name m.listing.scenarios) text

-- a log with its scenarios and these comments, or no memory for it
abbrev pub IsSavedOf : List (List ℕ) → Option Moment → List ℕ → Type 0
IsSavedOf comments None text = text ≡ refused (codes "Memory")
IsSavedOf comments (Some m) text = (text ≡ saved_text (saved comments m.log m.listing)) ⊎ (text ≡ refused (codes "Memory"))

-- A scenario stands beside others by the result of its view, and one that was dropped since doesn't; where no call was noted there
-- is no report.
abbrev pub beside_of : {A : Type 0} → Result PublishedView (Refusal ViewFault) → Result (Option (Beside A)) (Refusal ViewFault)
beside_of (Ok p) = Ok (Some (beside.Shown p))
beside_of (Err (why.Fault view.NotYet)) = Ok (Some beside.NotYet)
beside_of (Err (why.Fault (view.Behind seen found))) = Ok (Some beside.Behind)
beside_of (Err (why.Fault view.NoSuchScenario)) = Ok None
beside_of (Err why.JournalFull) = Err why.JournalFull
beside_of (Err why.Memory) = Err why.Memory

-- the line of a scenario of this name, if it stands beside others
abbrev pub lines_of : {A : Type 0} → List ℕ → Option (Beside A) → List (List ℕ)
lines_of name None = []
lines_of name (Some shown) = beside_line name shown ∷ []

module _ {S : Type 0} (rules : Rules S) where
  -- ---- calls

  -- a command that is one call: the text says what it returned
  abbrev pub CallBy : S → BookCall → (Reply → List ℕ) → List ℕ → S → Type 0
  CallBy old call says text new = (answer : Answer) × rules.does old call answer new × (text ≡ says_of says answer)

  -- a scenario is looked up by its name first
  abbrev pub FoundBy : (ℕ → S → Type 0) → Option ℕ → S → List ℕ → S → Type 0
  FoundBy follows None mid text new = (text ≡ refused no_such_scenario_name) × (new ≡ mid)
  FoundBy follows (Some id) mid text new = follows id mid

  abbrev pub NamedBy : S → List ℕ → (ℕ → S → Type 0) → List ℕ → S → Type 0
  NamedBy old name follows text new = (found : Option ℕ) × (mid : S) × rules.finds old name found mid × FoundBy follows found mid text new

  -- a view of the scenario with this id, with what was seen by then
  pub record IsViewed (old : S) (id : ℕ) (outcome : Result PublishedView (Refusal ViewFault)) (new : S) : Type 0 where
    pub call : rules.does old (View id (rules.seen old)) (view_answer outcome) new
    pub shown : rules.sees old id outcome new

  abbrev pub ViewBy : S → ℕ → List ℕ → Report → List ℕ → S → Type 0
  ViewBy old id name kind text new = (outcome : Result PublishedView (Refusal ViewFault)) × IsViewed old id outcome new × IsViewText kind name outcome text

  -- ---- scenarios side by side

  module _ (A : Type 0) where
    -- the scenario with this id stands beside others by the result of its view
    abbrev pub StandsSo : S → ℕ → Result (Option (Beside A)) (Refusal ViewFault) → S → Type 0
    StandsSo old id found new = (outcome : Result PublishedView (Refusal ViewFault)) × IsViewed old id outcome new × (found ≡ beside_of outcome)

    -- One view after another: each of these scenarios has the line that its view gives, and none where it was dropped before.
    abbrev pub AreBeside : S → List Listed → List (List ℕ) → S → Type 0
    AreBeside old [] lines new = (lines ≡ []) × (new ≡ old)
    AreBeside old (s ∷ scenarios) lines new =
        (next : S) × (found : Option (Beside A)) × (others : List (List ℕ)) × StandsSo old s.id (Ok found) next × AreBeside next scenarios others new
        × (lines ≡ lines_of s.name found ++ others)

    -- behind some views there is no memory, or the next one is refused
    abbrev pub NotBeside : S → List Listed → Refusal ViewFault → S → Type 0
    NotBeside old scenarios refusal new =
        (front back : List Listed) × (lines : List (List ℕ)) × (mid : S) × (scenarios ≡ front ++ back) × AreBeside old front lines mid
        × (((refusal ≡ why.Memory) × (new ≡ mid)) ⊎ ((s : Listed) × (others : List Listed) × (back ≡ s ∷ others) × StandsSo mid s.id (Err refusal) new))

    -- the report on all scenarios that were listed at some moment, one view after another; or there is none
    abbrev pub SideOf : Option Moment → S → List ℕ → S → Type 0
    SideOf None mid text new = (text ≡ refused (codes "Memory")) × (new ≡ mid)
    SideOf (Some m) mid text new =
        ((lines : List (List ℕ)) × AreBeside mid m.listing.scenarios lines new × ((text ≡ side_of lines) ⊎ (text ≡ refused (codes "Memory"))))
        ⊎ ((refusal : Refusal ViewFault) × NotBeside mid m.listing.scenarios refusal new × (text ≡ refused (refusal_name view_fault_name refusal)))

    abbrev pub SideBy : S → List ℕ → S → Type 0
    SideBy old text new = (moment : Option Moment) × (mid : S) × rules.reads old moment mid × SideOf moment mid text new

  -- ---- the log

  abbrev pub LogBy : S → List ℕ → List ℕ → S → Type 0
  LogBy old name text new = (moment : Option Moment) × rules.reads old moment new × IsLogOf name moment text

  abbrev pub SavedBy : S → List (List ℕ) → List ℕ → S → Type 0
  SavedBy old comments text new = (moment : Option Moment) × rules.reads old moment new × IsSavedOf comments moment text

  abbrev pub VersionBy : S → List ℕ → S → Type 0
  VersionBy old text new = (version : ℕ) × rules.counts old version new × (text ≡ version_line version)

  -- the response says how far the scenarios are
  abbrev pub SettledBy : S → List ℕ → S → Type 0
  SettledBy old text new = (state : SettleState) × rules.settles old state new × (text ≡ settle_line (rules.seen new) state)

  -- ---- the commands

  -- From the old state, with these kept comments, the response to the command may be this text, and the new state follow.
  abbrev pub AnswersBy : {A : Type 0} → List (List ℕ) → S → Command A → List ℕ → S → Type 0
  AnswersBy comments old (asks.Insert entry) text new = CallBy old (Edit (Insert entry)) edit_says text new
  AnswersBy comments old (asks.Remove number) text new = CallBy old (Edit (Remove number)) edit_says text new
  AnswersBy comments old (asks.Change number place value) text new = CallBy old (Edit (Change number place value)) edit_says text new
  AnswersBy comments old (asks.Scenario name scenario) text new = CallBy old (AddScenario name scenario) (scenario_says name) text new
  AnswersBy comments old (asks.Drop name) text new = CallBy old (DropScenario name) (scenario_says name) text new
  AnswersBy comments old (asks.Retry name) text new = NamedBy old name (λ id mid. CallBy mid (Retry id) (scenario_says name) text new) text new
  AnswersBy comments old asks.Settle text new = SettledBy old text new
  AnswersBy comments old (asks.Schedule name) text new = NamedBy old name (λ id mid. ViewBy mid id name reports.Schedule text new) text new
  AnswersBy comments old (asks.Table name) text new = NamedBy old name (λ id mid. ViewBy mid id name reports.Table text new) text new
  AnswersBy comments old (asks.Users name) text new = NamedBy old name (λ id mid. ViewBy mid id name reports.Users text new) text new
  AnswersBy comments old (asks.Days name) text new = NamedBy old name (λ id mid. ViewBy mid id name reports.Days text new) text new
  AnswersBy {A = A} comments old asks.Side text new = SideBy A old text new
  AnswersBy comments old (asks.Log name) text new = NamedBy old name (λ id mid. LogBy mid name text new) text new
  AnswersBy comments old asks.Save text new = SavedBy old comments text new
  AnswersBy comments old asks.Version text new = VersionBy old text new
  AnswersBy comments old asks.Quit text new = (text ≡ bye_line) × (new ≡ old)

  -- a line of a script: a command and its response, a line that holds none and gets nothing, or a fault with the line's number
  abbrev pub LineBy : {A : Type 0} → List (List ℕ) → S → ℕ → Result (Option (Command A)) CommandFault → List ℕ → S → Type 0
  LineBy comments old number (Ok None) text new = (text ≡ []) × (new ≡ old)
  LineBy comments old number (Ok (Some command)) text new = AnswersBy comments old command text new
  LineBy comments old number (Err fault) text new = (text ≡ fault_line number fault) × (new ≡ old)

  -- line after line, where the first of them has this number
  abbrev pub LinesBy : Type 0 → List (List ℕ) → S → List (List ℕ) → ℕ → List ℕ → S → Type 0
  LinesBy A comments old [] number out new = (out ≡ []) × (new ≡ old)
  LinesBy A comments old (line ∷ others) number out new =
      (text : List ℕ) × (next : S) × (later : List ℕ) × LineBy comments old number (command_of_line {A = A} line) text next
      × LinesBy A comments next others (number + 1) later new × (out ≡ text ++ later)
