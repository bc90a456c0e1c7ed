use Rattle.std.proofs.Common.{rules, ◌≡◌, refl, sym, ap, subst, arith}
use Rattle.std.specs.Prelude.{Option, None, Some, Ok, Err}
use Rattle.tasks.specs.Tasks.{TaskView}
use Rattle.version_book.specs.Tasks.{IsNext}
use Rattle.version_book.proofs.Readings.{claim-left, claim-none, claim-refused, claim-with}
use Rattle.version_book.proofs.Stepping.{seen-as, does-as}
use Rattle.version_book.specs.Sound.{IsSound}
use Rattle.version_book.specs.Answers.{claim_answer}
use Rattle.version_book.proofs.state.State.claim.Goals as goal

pub returns-in_err-task-clause-does : goal.returns-in_err-task-clause-does
returns-in_err-task-clause-does g c =
    let outcome : c.from_residual.result ≡ Err c.in_err-task.field-0.0 = search rules in
    does-as _ _ refl (ap claim_answer (sym outcome)) (claim-refused c.args.self.now c.in_err-task.field-0.0 (subst IsSound c.self.view_is c.self.invariant.0) c.in_err-task.ensures)

pub returns-in_default-clause-does : goal.returns-in_default-clause-does
returns-in_default-clause-does g c =
    let next : IsNext c.args.self.now (Ok None) = subst (λ (o : Option TaskView). IsNext c.args.self.now (Ok o)) c.in_default.is c.in_ok-task.ensures in
    claim-none c.args.self.now (subst IsSound c.self.view_is c.self.invariant.0) next

pub invariant_of-self : goal.invariant_of-self
invariant_of-self g c =
    let next : IsNext c.args.self.now (Ok (Some c.in-Some.task)) = subst (λ (o : Option TaskView). IsNext c.args.self.now (Ok o)) c.in-Some.is c.in_ok-task.ensures in
    ((claim-with c.in-Some.task c.in_ok-ticket.ticket c.push_reserved.new.self.items c.self.view_is c.self.invariant.0 next c.push_reserved.ensures.items c.in_ok-ticket.ensures.ticket).sound, c.self.invariant.1, omega (arith, c.self.invariant.2, c.push_reserved.ensures.capacity))

pub returns-clause-does : goal.returns-clause-does
returns-clause-does g c =
    let next : IsNext c.args.self.now (Ok (Some c.in-Some.task)) = subst (λ (o : Option TaskView). IsNext c.args.self.now (Ok o)) c.in-Some.is c.in_ok-task.ensures in
    claim-left c.in-Some.task c.to_ticket.new.self c.in_ok-ticket.ensures.task (seen-as c.self.view_is (claim-with c.in-Some.task c.in_ok-ticket.ticket c.push_reserved.new.self.items c.self.view_is c.self.invariant.0 next c.push_reserved.ensures.items c.in_ok-ticket.ensures.ticket))
