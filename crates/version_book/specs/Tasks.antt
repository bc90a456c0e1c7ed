-- The tasks of a book, and the runs that are handed in for its tickets.
use Rattle.std.specs.Prelude.{◌≡◌, ◌⊎◌, ℕ, ◌==◌, ◌≤◌, ◌<◌, if◌then◌else◌, length, Option, None, Some, Result, Ok, Err, IfOk, IsTrue, is_some, find}
use Rattle.std.specs.Option.{option_map}
use Rattle.checkpoints.specs.RunView.{RunView}
use Rattle.book_machine.specs.Machine.{is_due, are_all_out, ticket_limit}
use Rattle.tasks.specs.Published.{PublishedView}
use Rattle.tasks.specs.Tasks.{TaskView, bases_since, ticket_for}
use Rattle.tasks.specs.Tickets.{HasThoseOf, TicketView}
use Rattle.version_book.specs.Answers.{TellsFit, TellsStanding}
use Rattle.version_book.specs.Book.{ShownView, StateView, machine_at, progress_of_shown}
use Rattle.version_book.specs.Lookups.{has_id}
use Rattle.version_book.specs.Sound.{IsOfItsVersion}
use Rattle.version_book.specs.Steps.{Publishes}
use Rattle.version_book.specs.declared.faults.FinishFault.{FinishFault}
use Rattle.version_book.specs.declared.faults.TooManyTickets.{TooManyTickets}
use Rattle.version_book.specs.declared.refusal.Refusal.{Refusal}
use Rattle.version_book.specs.declared.refusal.Refusal.TheVariants as why

-- the task of a scenario at the current version
abbrev pub task_for : StateView → ShownView → TaskView
task_for s x = record {
  ticket = s.next_ticket;
  id = x.id;
  version = length s.edits;
  log = s.current;
  scenario = x.scenario;
  spacing = s.spacing;
  base = bases_since s.edits x.published;
}

-- the first scenario that is due
abbrev pub due_shown : StateView → Option ShownView
due_shown s = find (λ (x : ShownView). is_due (machine_at 0 s) (progress_of_shown x)) s.shown

-- ---- a run that is handed in

-- a ticket of this number stands, and the run has its log and its scenario
abbrev pub Fits : StateView → ℕ → RunView → Type 0
Fits s number run = HasThoseOf (find (λ (t : TicketView). t.number == number) s.tickets) run

-- a ticket of this number stands
abbrev pub Stands : StateView → ℕ → Type 0
Stands s number = IsTrue (is_some (find (λ (t : TicketView). t.number == number) s.tickets))

-- some run that has the log and the scenario of the ticket of this number is published for the ticket
abbrev pub PublishesFitting : StateView → StateView → ℕ → ℕ → Type 0
PublishesFitting old new number version = (run : RunView) × Fits old number run × Publishes old new number version run

-- The result is that of the run which the ticket's task has left, whatever this run is; or the task has left none, and it is
-- that of this run.
abbrev pub IsHandedIn : StateView → StateView → ℕ → RunView → Result ℕ (Refusal FinishFault) → Type 0
IsHandedIn old new number run result =
    (TellsStanding (Stands old number) (Some result) × IfOk result (PublishesFitting old new number))
    ⊎ (TellsFit (Fits old number run) result × IfOk result (λ version. Publishes old new number version run))

-- the ticket of this task stands, so a run of its log and scenario fits
abbrev pub IsOut : StateView → TaskView → Type 0
IsOut s t = find (λ (it : TicketView). it.number == t.ticket) s.tickets ≡ Some (ticket_for t)

-- the id of the first scenario that is due, unless as many tickets stand as may
abbrev pub free_due : StateView → Option ℕ
free_due s = if are_all_out (machine_at 0 s) then None else option_map (λ (x : ShownView). x.id) (due_shown s)

-- why a claim is refused, or the task that it returns
abbrev pub IsNext : StateView → Result (Option TaskView) (Refusal TooManyTickets) → Type 0
IsNext s (Ok None) = due_shown s ≡ None
IsNext s (Ok (Some task)) = (x : ShownView) × (due_shown s ≡ Some x) × (length s.tickets < ticket_limit) × (task ≡ task_for s x)
IsNext s (Err why.JournalFull) = ⊥
IsNext s (Err (why.Fault fault)) = (x : ShownView) × (due_shown s ≡ Some x) × (ticket_limit ≤ length s.tickets)
IsNext s (Err why.Memory) = Unit {0}

-- ---- a view

-- What is shown for the scenario with this id: it is what is published, its version is not below the one seen, and it is
-- the simulation, second by second, of that version's log under the scenario.
pub record IsShownFor (s : StateView) (id seen : ℕ) (p : PublishedView) : Type 0 where
  pub scenario : ShownView
  pub found : find (has_id id) s.shown ≡ Some scenario
  pub published : scenario.published ≡ Some p
  pub newer : seen ≤ p.version
  pub version : IsOfItsVersion s.opening s.edits scenario.scenario p
