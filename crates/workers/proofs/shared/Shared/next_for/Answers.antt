use Rattle.std.proofs.Common.{rules, ◌≡◌, true, false, subst}
use Rattle.std.specs.Prelude.{Option, Some, Ok, is_some}
use Rattle.std.specs.Option.{option_map}
use Rattle.book_machine.specs.declared.caller.Caller.TheVariants as caller
use Rattle.book_machine.specs.Call.{Claim}
use Rattle.tasks.specs.Tasks.{TaskView}
use Rattle.version_book.specs.Answers.{claim_answer}
use Rattle.version_book.specs.Steps.{Answers}
use Rattle.version_book.specs.Tasks.{due_shown, free_due, task_for}
use Rattle.workers.proofs.shared.Shared.next_for.Goals as goal

pub returns-in-Ok-Some-clause-book : goal.returns-in-Ok-Some-clause-book
returns-in-Ok-Some-clause-book g c =
    let goes : c.args.self.now.stopped ≡ false = search rules in
    let free : is_some (free_due c.args.self.now.book.state) ≡ true = search rules in
    let made : Some c.in-Ok-Some.task ≡ option_map (task_for c.args.self.now.book.state) (due_shown c.args.self.now.book.state) = search rules in
    let is : c.in-Ok-Some.field-0 ≡ Some c.in-Ok-Some.task = search rules in
    let answers = subst (λ (t : Option TaskView). Answers c.args.self.now.book c.claim_for.new.self.book (caller.Worker c.args.worker) Claim (claim_answer (Ok t))) is c.in-Ok-Some.ensures.book in
    (goes, free, answers, made)
