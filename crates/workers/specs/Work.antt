-- What a worker's list may hold: claims, each of a ticket followed by what became of it.
use Rattle.std.specs.Prelude.{◌≡◌, ℕ, ◌==◌, if◌then◌else◌, Bool, true, false, List, [], ◌∷◌, ◌++◌, Option, None, Some, IfSome, is_some, Result, Ok, Err, ◌⊎◌}
use Rattle.std.specs.Option.{option_map}
use Rattle.book_machine.specs.declared.caller.Caller.{Caller}
use Rattle.book_machine.specs.Call.{BookCall, Claim, Finish, GiveUp}
use Rattle.book_machine.specs.declared.reply.Reply.{Reply}
use Rattle.book_machine.specs.declared.reply.Reply.TheVariants as reply
use Rattle.checkpoints.specs.RunView.{RunView}
use Rattle.tasks.specs.Tasks.{TaskView}
use Rattle.version_book.specs.Answers.{claim_answer, finish_answer, fitted, give_up_answer}
use Rattle.version_book.specs.Book.{BookView}
use Rattle.version_book.specs.Steps.{Answers, full, memory}
use Rattle.version_book.specs.Tasks.{due_shown, free_due, task_for}
use Rattle.version_book.specs.declared.faults.FinishFault.{FinishFault}
use Rattle.version_book.specs.declared.faults.UnknownTicket.{UnknownTicket}
use Rattle.version_book.specs.declared.refusal.Refusal.{Refusal}
use Rattle.version_book.specs.declared.refusal.Refusal.TheVariants as why
use Rattle.workers.specs.Lists.{ListedView, Gains}
use Rattle.workers.specs.declared.worker.WorkerEnd.{WorkerEnd}
use Rattle.workers.specs.declared.worker.WorkerEnd.TheVariants as ends

-- ---- how a list goes on

-- the ticket that a worker holds after a claim was replied so
abbrev pub held_by_claim : Reply → Option (Option ℕ)
held_by_claim (reply.Claimed ticket id version base) = Some (Some ticket)
held_by_claim reply.NoneDue = Some None
held_by_claim reply.TooManyTickets = Some None
held_by_claim _ = None

-- the ticket held after a call, where the call may come next: who holds none claims, who holds one hands it in or gives it up
abbrev pub held_after_call : Option ℕ → BookCall → Reply → Option (Option ℕ)
held_after_call None Claim r = held_by_claim r
held_after_call (Some held) (Finish ticket fits) r = if ticket == held then Some None else None
held_after_call (Some held) (GiveUp ticket) r = if ticket == held then Some None else None
held_after_call held call r = None

-- the ticket held after all calls of a list, where they may follow one another
abbrev pub held_after : Option ℕ → List ListedView → Option (Option ℕ)
held_after held [] = Some held
held_after held (e ∷ es) = elim (held_after_call held e.call e.reply) [ None ↦ None | Some now ↦ held_after now es ]

-- the list goes on with claims, each of a ticket followed by a finish or a give-up of this ticket, the last one perhaps not
abbrev pub WorksOn : List ListedView → List ListedView → Type 0
WorksOn old new = (added : List ListedView) × (held : Option ℕ) × (new ≡ old ++ added) × (held_after None added ≡ Some held)

-- the same, and no ticket is left
abbrev pub WorksThrough : List ListedView → List ListedView → Type 0
WorksThrough old new = (added : List ListedView) × (new ≡ old ++ added) × (held_after None added ≡ Some None)

-- ---- how a ticket is had

-- What a worker finds under the lock, where the desk is stopped or a ticket is to be had. Where it is stopped nothing is
-- claimed; otherwise a claim gives the worker its task, or isn't noted, since the journal is full or memory was refused.
abbrev pub Finds : Result TaskView WorkerEnd → Bool → Caller → BookView → BookView → Type 0
Finds (Ok task) stopped who old new =
    (stopped ≡ false) × (is_some (free_due old.state) ≡ true) × Answers old new who Claim (claim_answer (Ok (Some task)))
    × (Some task ≡ option_map (task_for old.state) (due_shown old.state))
Finds (Err ends.Stopped) stopped who old new = (stopped ≡ true) × (new ≡ old)
Finds (Err ends.Full) stopped who old new = (stopped ≡ false) × (is_some (free_due old.state) ≡ true) × Answers old new who Claim full
Finds (Err ends.Memory) stopped who old new = (stopped ≡ false) × (is_some (free_due old.state) ≡ true) × Answers old new who Claim memory

-- the list gains the claim of a task, and nothing otherwise
abbrev pub GainsClaim : Result TaskView WorkerEnd → List ListedView → List ListedView → Type 0
GainsClaim (Ok task) old new = Gains old new Claim (claim_answer (Ok (Some task)))
GainsClaim (Err end) old new = new ≡ old

-- ---- how a ticket is handed in

-- a worker ends at a full journal and at out of memory, and not at other results
abbrev pub end_of : {T F : Type 0} → Result T (Refusal F) → Result (Unit {0}) WorkerEnd
end_of (Ok value) = Ok tt
end_of (Err why.JournalFull) = Err ends.Full
end_of (Err (why.Fault fault)) = Ok tt
end_of (Err why.Memory) = Err ends.Memory

-- the run for the ticket was handed in, the list has the reply, and the worker ends by it
abbrev pub Finishes : ℕ → List ListedView → List ListedView → Result (Unit {0}) WorkerEnd → Type 0
Finishes ticket old new end =
    (answer : Result ℕ (Refusal FinishFault)) × Gains old new (Finish ticket (fitted answer)) (finish_answer answer) × (end ≡ end_of answer)

-- the ticket was given up, the list has the reply, and the worker ends by it
abbrev pub GivesUp : ℕ → List ListedView → List ListedView → Result (Unit {0}) WorkerEnd → Type 0
GivesUp ticket old new end =
    (answer : Result (Unit {0}) (Refusal UnknownTicket)) × Gains old new (GiveUp ticket) (give_up_answer answer) × (end ≡ end_of answer)

-- a run that was made is one of the task's log and scenario
abbrev pub IsWanted : TaskView → Option RunView → Type 0
IsWanted task made = IfSome made (λ (run : RunView). (run.log ≡ task.log) × (run.scenario ≡ task.scenario))

-- a run that was made is handed in, and where none was the ticket is given up
abbrev pub HandsIn : ℕ → Option RunView → List ListedView → List ListedView → Result (Unit {0}) WorkerEnd → Type 0
HandsIn ticket (Some run) old new end = Finishes ticket old new end
HandsIn ticket None old new end = GivesUp ticket old new end

-- what came of the work is what may come of it, and is handed in
abbrev pub HandsInWhat : (Option RunView → Type 0) → ℕ → List ListedView → List ListedView → Result (Unit {0}) WorkerEnd → Type 0
HandsInWhat gives ticket old new end = (made : Option RunView) × gives made × HandsIn ticket made old new end

-- one of the two
abbrev pub HandsInOnce : ℕ → List ListedView → List ListedView → Result (Unit {0}) WorkerEnd → Type 0
HandsInOnce ticket old new end = Finishes ticket old new end ⊎ GivesUp ticket old new end
