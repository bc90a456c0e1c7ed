-- Rules that lead to others lead to the transcripts that those allow, command by command and line by line.
use Rattle.std.specs.Prelude.{◌≡◌, ℕ, ◌+◌, List, [], ◌∷◌, Option, None, Some, Result, Ok, Err}
use Rattle.std.proofs.Common.{sym, ◌∙◌, ap, subst, inl, inr}
use Rattle.scenarios.specs.ScenarioList.{Listed}
use Rattle.commands.specs.declared.command.Command.{Command}
use Rattle.commands.specs.declared.command.Command.TheVariants as asks
use Rattle.commands.specs.declared.fault.CommandFault.{CommandFault}
use Rattle.commands.specs.Commands.{command_of_line}
use Rattle.book_machine.specs.declared.reply.Reply.{Reply}
use Rattle.book_machine.specs.Call.{BookCall, Edit, AddScenario, DropScenario, Retry}
use Rattle.job_table.specs.Edit.{Insert, Remove, Change}
use Rattle.version_book.specs.declared.faults.ViewFault.{ViewFault}
use Rattle.version_book.specs.declared.refusal.Refusal.{Refusal}
use Rattle.scripts.specs.declared.view_report.Report.{Report}
use Rattle.scripts.specs.declared.view_report.Report.TheVariants as reports
use Rattle.scripts.specs.declared.views.Beside.{Beside}
use Rattle.scripts.specs.Analysts.{AnswersBy, AreBeside, CallBy, FoundBy, LineBy, LinesBy, LogBy, NamedBy, NotBeside, SavedBy, SettledBy, SideBy, SideOf, StandsSo, VersionBy, ViewBy}
use Rattle.scripts.specs.Answers.{edit_says, scenario_says}
use Rattle.scripts.specs.Lifting.{Leads, Lifts, LinesLift}
use Rattle.version_book.specs.Reading.{Moment}
use Rattle.version_book.specs.Rules.{Rules}
use Rattle.scripts.specs.Steps.{settle_line}

module _ {S : Type 0} (Inv Good : S → Type 0) where
  stays : (old new : S) (fact : Type 0) → new ≡ old → fact → Leads Inv Good old new fact
  stays old new fact same h = λ inv. (subst Inv (sym same) inv, λ good. (subst Good same good, h))

  leads-to : (old new : S) (one other : Type 0) → (one → other) → Leads Inv Good old new one → Leads Inv Good old new other
  leads-to old new one other follows h = λ inv. let step = h inv in (step.0, λ good. let back = step.1 good in (back.0, follows back.1))

  leads-on : (old mid new : S) (one other both : Type 0) → (one → other → both) → Leads Inv Good old mid one → Leads Inv Good mid new other → Leads Inv Good old new both
  leads-on old mid new one other both follows h k = λ inv.
      let first = h inv in
      let second = k first.0 in
      (second.0, λ good. let back = second.1 good in let front = first.1 back.0 in (front.0, follows front.1 back.1))

module _ {S T : Type 0} (from : Rules S) (to : Rules T) (at : S → T) (Inv Good : S → Type 0) (lifts : Lifts from to at Inv Good) where
  call-lifts : (old : S) (call : BookCall) (says : Reply → List ℕ) (text : List ℕ) (new : S) → CallBy from old call says text new → Leads Inv Good old new (CallBy to (at old) call says text (at new))
  call-lifts old call says text new (answer, h, is) = leads-to Inv Good old new _ _ (λ k. (answer, k, is)) (lifts.does old new call answer h)

  found-lifts : (follows : ℕ → S → Type 0) (follows' : ℕ → T → Type 0) (found : Option ℕ) (mid : S) (text : List ℕ) (new : S)
      → ((id : ℕ) (s : S) → follows id s → Leads Inv Good s new (follows' id (at s))) → FoundBy from follows found mid text new → Leads Inv Good mid new (FoundBy to follows' found (at mid) text (at new))
  found-lifts follows follows' None mid text new one h = stays Inv Good mid new _ h.1 (h.0, ap at h.1)
  found-lifts follows follows' (Some id) mid text new one h = one id mid h

  named-lifts : (old : S) (name : List ℕ) (follows : ℕ → S → Type 0) (follows' : ℕ → T → Type 0) (text : List ℕ) (new : S)
      → ((id : ℕ) (s : S) → follows id s → Leads Inv Good s new (follows' id (at s))) → NamedBy from old name follows text new → Leads Inv Good old new (NamedBy to (at old) name follows' text (at new))
  named-lifts old name follows follows' text new one (found, mid, finds, h) =
      leads-on Inv Good old mid new _ _ _ (λ f k. (found, at mid, f, k)) (lifts.finds old mid name found finds) (found-lifts follows follows' found mid text new one h)

  view-lifts : (old : S) (id : ℕ) (name : List ℕ) (kind : Report) (text : List ℕ) (new : S) → ViewBy from old id name kind text new → Leads Inv Good old new (ViewBy to (at old) id name kind text (at new))
  view-lifts old id name kind text new (outcome, h, is) = leads-to Inv Good old new _ _ (λ k. (outcome, k, is)) (lifts.views old new id outcome h)

  log-lifts : (old : S) (name text : List ℕ) (new : S) → LogBy from old name text new → Leads Inv Good old new (LogBy to (at old) name text (at new))
  log-lifts old name text new (moment, h, is) = leads-to Inv Good old new _ _ (λ k. (moment, k, is)) (lifts.reads old new moment h)

  saved-lifts : (old : S) (comments : List (List ℕ)) (text : List ℕ) (new : S) → SavedBy from old comments text new → Leads Inv Good old new (SavedBy to (at old) comments text (at new))
  saved-lifts old comments text new (moment, h, is) = leads-to Inv Good old new _ _ (λ k. (moment, k, is)) (lifts.reads old new moment h)

  version-lifts : (old : S) (text : List ℕ) (new : S) → VersionBy from old text new → Leads Inv Good old new (VersionBy to (at old) text (at new))
  version-lifts old text new (version, h, is) = leads-to Inv Good old new _ _ (λ k. (version, k, is)) (lifts.counts old new version h)

  settled-lifts : (old : S) (text : List ℕ) (new : S) → SettledBy from old text new → Leads Inv Good old new (SettledBy to (at old) text (at new))
  settled-lifts old text new (state, h, is) =
      leads-to Inv Good old new _ _ (λ k. (state, k, is ∙ ap (λ (n : ℕ). settle_line n state) (lifts.seen new))) (lifts.settles old new state h)

  module _ (A : Type 0) where
    stands-lifts : (old : S) (id : ℕ) (found : Result (Option (Beside A)) (Refusal ViewFault)) (new : S) → StandsSo from A old id found new → Leads Inv Good old new (StandsSo to A (at old) id found (at new))
    stands-lifts old id found new (outcome, h, is) = leads-to Inv Good old new _ _ (λ k. (outcome, k, is)) (lifts.views old new id outcome h)

    beside-lifts : (old : S) (scenarios : List Listed) (lines : List (List ℕ)) (new : S) → AreBeside from A old scenarios lines new → Leads Inv Good old new (AreBeside to A (at old) scenarios lines (at new))
    beside-lifts old [] lines new h = stays Inv Good old new _ h.1 (h.0, ap at h.1)
    beside-lifts old (s ∷ scenarios) lines new (next, found, others, one, rest, is) =
        leads-on Inv Good old next new _ _ _ (λ f k. (at next, found, others, f, k, is)) (stands-lifts old s.id (Ok found) next one) (beside-lifts next scenarios others new rest)

    not-beside-lifts : (old : S) (scenarios : List Listed) (refusal : Refusal ViewFault) (new : S) → NotBeside from A old scenarios refusal new → Leads Inv Good old new (NotBeside to A (at old) scenarios refusal (at new))
    not-beside-lifts old scenarios refusal new (front, back, lines, mid, whole, are, inl end) =
        leads-on Inv Good old mid new _ _ _ (λ f k. (front, back, lines, at mid, whole, f, inl k)) (beside-lifts old front lines mid are) (stays Inv Good mid new _ end.1 (end.0, ap at end.1))
    not-beside-lifts old scenarios refusal new (front, back, lines, mid, whole, are, inr (s, others, more, one)) =
        leads-on Inv Good old mid new _ _ _ (λ f k. (front, back, lines, at mid, whole, f, inr (s, others, more, k))) (beside-lifts old front lines mid are) (stands-lifts mid s.id (Err refusal) new one)

    side-of-lifts : (moment : Option Moment) (mid : S) (text : List ℕ) (new : S) → SideOf from A moment mid text new → Leads Inv Good mid new (SideOf to A moment (at mid) text (at new))
    side-of-lifts None mid text new h = stays Inv Good mid new _ h.1 (h.0, ap at h.1)
    side-of-lifts (Some m) mid text new (inl (lines, are, is)) = leads-to Inv Good mid new _ _ (λ k. inl (lines, k, is)) (beside-lifts mid m.listing.scenarios lines new are)
    side-of-lifts (Some m) mid text new (inr (refusal, not, is)) = leads-to Inv Good mid new _ _ (λ k. inr (refusal, k, is)) (not-beside-lifts mid m.listing.scenarios refusal new not)

    side-lifts : (old : S) (text : List ℕ) (new : S) → SideBy from A old text new → Leads Inv Good old new (SideBy to A (at old) text (at new))
    side-lifts old text new (moment, mid, reads, h) = leads-on Inv Good old mid new _ _ _ (λ f k. (moment, at mid, f, k)) (lifts.reads old mid moment reads) (side-of-lifts moment mid text new h)

  answers-lift : {A : Type 0} (comments : List (List ℕ)) (old : S) (command : Command A) (text : List ℕ) (new : S) → AnswersBy from comments old command text new → Leads Inv Good old new (AnswersBy to comments (at old) command text (at new))
  answers-lift comments old (asks.Insert entry) text new h = call-lifts old (Edit (Insert entry)) edit_says text new h
  answers-lift comments old (asks.Remove number) text new h = call-lifts old (Edit (Remove number)) edit_says text new h
  answers-lift comments old (asks.Change number place value) text new h = call-lifts old (Edit (Change number place value)) edit_says text new h
  answers-lift comments old (asks.Scenario name scenario) text new h = call-lifts old (AddScenario name scenario) (scenario_says name) text new h
  answers-lift comments old (asks.Drop name) text new h = call-lifts old (DropScenario name) (scenario_says name) text new h
  answers-lift comments old (asks.Retry name) text new h =
      named-lifts old name _ (λ id mid. CallBy to mid (Retry id) (scenario_says name) text (at new)) text new (λ id mid. call-lifts mid (Retry id) (scenario_says name) text new) h
  answers-lift comments old asks.Settle text new h = settled-lifts old text new h
  answers-lift comments old (asks.Schedule name) text new h = named-lifts old name _ (λ id mid. ViewBy to mid id name reports.Schedule text (at new)) text new (λ id mid. view-lifts mid id name reports.Schedule text new) h
  answers-lift comments old (asks.Table name) text new h = named-lifts old name _ (λ id mid. ViewBy to mid id name reports.Table text (at new)) text new (λ id mid. view-lifts mid id name reports.Table text new) h
  answers-lift comments old (asks.Users name) text new h = named-lifts old name _ (λ id mid. ViewBy to mid id name reports.Users text (at new)) text new (λ id mid. view-lifts mid id name reports.Users text new) h
  answers-lift comments old (asks.Days name) text new h = named-lifts old name _ (λ id mid. ViewBy to mid id name reports.Days text (at new)) text new (λ id mid. view-lifts mid id name reports.Days text new) h
  answers-lift {A} comments old asks.Side text new h = side-lifts A old text new h
  answers-lift comments old (asks.Log name) text new h = named-lifts old name _ (λ id mid. LogBy to mid name text (at new)) text new (λ id mid. log-lifts mid name text new) h
  answers-lift comments old asks.Save text new h = saved-lifts old comments text new h
  answers-lift comments old asks.Version text new h = version-lifts old text new h
  answers-lift comments old asks.Quit text new h = stays Inv Good old new _ h.1 (h.0, ap at h.1)

  line-lifts : {A : Type 0} (comments : List (List ℕ)) (old : S) (number : ℕ) (asked : Result (Option (Command A)) CommandFault) (text : List ℕ) (new : S)
      → LineBy from comments old number asked text new → Leads Inv Good old new (LineBy to comments (at old) number asked text (at new))
  line-lifts comments old number (Ok None) text new h = stays Inv Good old new _ h.1 (h.0, ap at h.1)
  line-lifts comments old number (Ok (Some command)) text new h = answers-lift comments old command text new h
  line-lifts comments old number (Err fault) text new h = stays Inv Good old new _ h.1 (h.0, ap at h.1)

  all-lines-lift : (A : Type 0) (comments : List (List ℕ)) (old : S) (ls : List (List ℕ)) (number : ℕ) (out : List ℕ) (new : S)
      → LinesBy from A comments old ls number out new → Leads Inv Good old new (LinesBy to A comments (at old) ls number out (at new))
  all-lines-lift A comments old [] number out new h = stays Inv Good old new _ h.1 (h.0, ap at h.1)
  all-lines-lift A comments old (line ∷ ls) number out new (text, next, later, one, rest, is) =
      leads-on Inv Good old next new _ _ _ (λ f k. (text, at next, later, f, k, is))
      (line-lifts comments old number (command_of_line {A = A} line) text next one) (all-lines-lift A comments next ls (number + 1) later new rest)

-- a transcript by rules that lead to others is one by the others, from where the invariant holds, if the state in the end is good
pub lines-lift : {S T : Type 0} (from : Rules S) (to : Rules T) (at : S → T) (Inv Good : S → Type 0) (A : Type 0) → LinesLift from to at Inv Good A
lines-lift from to at Inv Good A lifts = all-lines-lift from to at Inv Good lifts A
