use Rattle.std.proofs.Common.{rules, ◌≡◌, refl, sym, ◌∙◌, ap, inl, subst, true}
use Rattle.std.specs.Prelude.{Option, Some, Ok, is_some}
use Rattle.std.specs.Option.{option_map}
use Rattle.book_machine.specs.declared.caller.Caller.TheVariants as caller
use Rattle.book_machine.specs.Call.{Claim}
use Rattle.tasks.specs.Tasks.{TaskView}
use Rattle.version_book.specs.Answers.{claim_answer}
use Rattle.version_book.specs.Steps.{Answers as Answered}
use Rattle.version_book.specs.Tasks.{due_shown, free_due, task_for}
use Rattle.version_book.proofs.Settlings.{at-rest, is-none, turn-of}
use Rattle.version_book.proofs.settling.work_next.Goals as goal

pub returns-then-is_none : goal.returns-then-is_none
returns-then-is_none g c = inl (at-rest c.args.book.now (is-none _ (ap is_some (sym c.due.ensures) ∙ c.if-is_none.ensures)), refl)

pub returns-in-Ok-Some : goal.returns-in-Ok-Some
returns-in-Ok-Some g c =
    let free : is_some (free_due c.args.book.now.state) ≡ true = ap is_some (sym c.due.ensures) ∙ c.if-is_none.ensures in
    let answered : Answered c.args.book.now c.claim.new.self (caller.Worker 0) Claim (claim_answer (Ok (Some c.in-Ok-Some.task))) = subst (λ (o : Option TaskView). Answered c.args.book.now c.claim.new.self (caller.Worker 0) Claim (claim_answer (Ok o))) c.in-Ok-Some.field-0-is c.in-Ok-Some.ensures.answer in
    let task : Some c.in-Ok-Some.task ≡ option_map (task_for c.args.book.now.state) (due_shown c.args.book.now.state) = search rules in
    turn-of c.args.book.now c.claim.new.self (caller.Worker 0) c.in-Ok-Some.task c.work.result _ free answered task c.work.ensures
