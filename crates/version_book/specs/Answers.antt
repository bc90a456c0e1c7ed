-- What the results of the book's calls say.
use Rattle.std.specs.Prelude.{◌≡◌, ◌<◌, ℕ, Bool, true, false, length, Option, None, Some, Result, Ok, Err}
use Rattle.std.specs.Option.{option_map}
use Rattle.job_table.specs.declared.fault.EditFault.{EditFault}
use Rattle.scenarios.specs.declared.list_fault.AddFault.{AddFault}
use Rattle.scenarios.specs.declared.list_fault.AddFault.TheVariants as list
use Rattle.scenarios.specs.declared.list_fault.NoSuchScenario.{NoSuchScenario}
use Rattle.book_machine.specs.declared.caller.Caller.{Caller}
use Rattle.book_machine.specs.declared.reply.Reply.{Reply}
use Rattle.book_machine.specs.declared.reply.Reply.TheVariants as reply
use Rattle.book_machine.specs.Call.{Finish}
use Rattle.book_machine.specs.Machine.{note_limit}
use Rattle.tasks.specs.Published.{PublishedView}
use Rattle.tasks.specs.Tasks.{TaskView}
use Rattle.version_book.specs.declared.refusal.Refusal.{Refusal}
use Rattle.version_book.specs.declared.refusal.Refusal.TheVariants as why
use Rattle.version_book.specs.declared.faults.ViewFault.{ViewFault}
use Rattle.version_book.specs.declared.faults.ViewFault.TheVariants as view
use Rattle.version_book.specs.declared.faults.TooManyTickets.{TooManyTickets}
use Rattle.version_book.specs.declared.faults.FinishFault.{FinishFault}
use Rattle.version_book.specs.declared.faults.FinishFault.TheVariants as finish
use Rattle.version_book.specs.declared.faults.UnknownTicket.{UnknownTicket}
use Rattle.version_book.specs.Book.{BookView}
use Rattle.version_book.specs.Steps.{Answer, Answers, full, memory, outcome}

-- what a call returns, by the replies for its value and for its fault
abbrev pub answer_of : {T F : Type 0} → (T → Reply) → (F → Reply) → Result T (Refusal F) → Answer
answer_of replied refused (Ok value) = outcome (replied value)
answer_of replied refused (Err why.JournalFull) = full
answer_of replied refused (Err (why.Fault fault)) = outcome (refused fault)
answer_of replied refused (Err why.Memory) = memory

abbrev pub edit_answer : Result ℕ (Refusal EditFault) → Answer
edit_answer result = answer_of reply.Edited reply.EditRefused result

-- why a scenario is not added, by the fault of the list
abbrev pub refusal_of : AddFault → Refusal AddFault
refusal_of list.BadName = why.Fault list.BadName
refusal_of list.NameTaken = why.Fault list.NameTaken
refusal_of list.TooMany = why.Fault list.TooMany
refusal_of list.Memory = why.Memory

abbrev pub add_answer : Result ℕ (Refusal AddFault) → Answer
add_answer result = answer_of reply.Added reply.AddRefused result

abbrev pub drop_answer : Result ℕ (Refusal NoSuchScenario) → Answer
drop_answer result = answer_of reply.Dropped (λ _. reply.NoSuchScenario) result

abbrev pub retry_answer : {U : Type 0} → Result U (Refusal NoSuchScenario) → Answer
retry_answer result = answer_of (λ _. reply.Retried) (λ _. reply.NoSuchScenario) result

abbrev pub view_refused : ViewFault → Reply
view_refused view.NoSuchScenario = reply.NoSuchScenario
view_refused view.NotYet = reply.NotYet
view_refused (view.Behind seen found) = reply.Behind seen found

-- a run is shown by its version
abbrev pub view_answer : Result PublishedView (Refusal ViewFault) → Answer
view_answer result = answer_of (λ (p : PublishedView). reply.Shown p.version) view_refused result

-- a task is replied as its ticket, scenario and version, and the version of its base
abbrev pub claim_replied : Option TaskView → Reply
claim_replied None = reply.NoneDue
claim_replied (Some t) = reply.Claimed t.ticket t.id t.version (option_map (λ b. b.version) t.base)

abbrev pub claim_answer : Result (Option TaskView) (Refusal TooManyTickets) → Answer
claim_answer result = answer_of claim_replied (λ _. reply.TooManyTickets) result

abbrev pub finish_refused : FinishFault → Reply
finish_refused finish.UnknownTicket = reply.UnknownTicket
finish_refused finish.Stranger = reply.Stranger
finish_refused (finish.Stale published) = reply.Stale published

abbrev pub finish_answer : Result ℕ (Refusal FinishFault) → Answer
finish_answer result = answer_of reply.Finished finish_refused result

-- whether the run fitted its ticket, by the result
abbrev pub fitted : Result ℕ (Refusal FinishFault) → Bool
fitted (Ok version) = true
fitted (Err why.JournalFull) = false
fitted (Err (why.Fault finish.UnknownTicket)) = false
fitted (Err (why.Fault finish.Stranger)) = false
fitted (Err (why.Fault (finish.Stale published))) = true
fitted (Err why.Memory) = false

-- the run fitted exactly where the result says so; of a call that is not noted nothing is said
abbrev pub TellsFit : Type 0 → Result ℕ (Refusal FinishFault) → Type 0
TellsFit Fits (Ok version) = Fits
TellsFit Fits (Err why.JournalFull) = Unit {0}
TellsFit Fits (Err (why.Fault finish.UnknownTicket)) = Fits → ⊥
TellsFit Fits (Err (why.Fault finish.Stranger)) = Fits → ⊥
TellsFit Fits (Err (why.Fault (finish.Stale published))) = Fits
TellsFit Fits (Err why.Memory) = Unit {0}

-- a run that fits is not refused as one of another ticket or of none
abbrev pub TakesWhatFits : Type 0 → Result ℕ (Refusal FinishFault) → Type 0
TakesWhatFits Fits (Ok version) = Unit {0}
TakesWhatFits Fits (Err why.JournalFull) = Unit {0}
TakesWhatFits Fits (Err (why.Fault finish.UnknownTicket)) = Fits → ⊥
TakesWhatFits Fits (Err (why.Fault finish.Stranger)) = Fits → ⊥
TakesWhatFits Fits (Err (why.Fault (finish.Stale published))) = Unit {0}
TakesWhatFits Fits (Err why.Memory) = Unit {0}

-- the result for the run that a ticket's task has left, if it has left one
abbrev pub outcome_of_run : Result (Option ℕ) (Refusal FinishFault) → Option (Result ℕ (Refusal FinishFault))
outcome_of_run (Ok None) = None
outcome_of_run (Ok (Some version)) = Some (Ok version)
outcome_of_run (Err refusal) = Some (Err refusal)

-- the run that a ticket's task has left is finished; or it has left none, and nothing changes
abbrev pub AnswersOfRun : BookView → BookView → Caller → ℕ → Option (Result ℕ (Refusal FinishFault)) → Type 0
AnswersOfRun old new who ticket None = (length old.journal < note_limit) × (new ≡ old)
AnswersOfRun old new who ticket (Some answer) = Answers old new who (Finish ticket (fitted answer)) (finish_answer answer)

-- The ticket stood exactly where the result says so; of a call that is not noted nothing is said. What a task has left is
-- no stranger's.
abbrev pub TellsStanding : Type 0 → Option (Result ℕ (Refusal FinishFault)) → Type 0
TellsStanding Stands None = Stands
TellsStanding Stands (Some (Ok version)) = Stands
TellsStanding Stands (Some (Err why.JournalFull)) = Unit {0}
TellsStanding Stands (Some (Err (why.Fault finish.UnknownTicket))) = Stands → ⊥
TellsStanding Stands (Some (Err (why.Fault finish.Stranger))) = ⊥
TellsStanding Stands (Some (Err (why.Fault (finish.Stale published)))) = Stands
TellsStanding Stands (Some (Err why.Memory)) = Unit {0}

abbrev pub give_up_answer : {U : Type 0} → Result U (Refusal UnknownTicket) → Answer
give_up_answer result = answer_of (λ _. reply.GivenUp) (λ _. reply.UnknownTicket) result
