use Rattle.std.proofs.Common.{ℕ, inl, inr, subst}
use Rattle.std.specs.Prelude.{Option, None, Ok, IfOk, IfSome}
use Rattle.std.specs.Arc.{arc_value}
use Rattle.book_machine.specs.declared.caller.Caller.TheVariants as caller
use Rattle.book_machine.specs.Call.{Finish}
use Rattle.version_book.specs.Answers.{AnswersOfRun, TellsFit, TellsStanding, finish_answer, fitted, outcome_of_run}
use Rattle.version_book.specs.Book.{BookView}
use Rattle.version_book.specs.Steps.{Answers, Publishes}
use Rattle.version_book.specs.Tasks.{Fits, PublishesFitting, Stands}
use Rattle.version_book.proofs.book.Book.hand_in.Goals as goal

pub returns-in-Ok-None-clause-answer : goal.returns-in-Ok-None-clause-answer
returns-in-Ok-None-clause-answer g c =
    let none : AnswersOfRun c.args.self.now c.finish_delivered.new.self (caller.Worker c.args.worker) c.args.ticket (outcome_of_run (Ok None)) = subst (λ (o : Option ℕ). AnswersOfRun c.args.self.now c.finish_delivered.new.self (caller.Worker c.args.worker) c.args.ticket (outcome_of_run (Ok o))) c.in-Ok-None.field-0-is c.in-Ok-None.ensures.answer in
    subst (λ (b : BookView). Answers b c.finish.new.self (caller.Worker c.args.worker) (Finish c.args.ticket (fitted c.finish.result)) (finish_answer c.finish.result)) none.1 c.finish.ensures.answer

pub returns-in-Ok-None-clause-run : goal.returns-in-Ok-None-clause-run
returns-in-Ok-None-clause-run g c =
    let none : AnswersOfRun c.args.self.now c.finish_delivered.new.self (caller.Worker c.args.worker) c.args.ticket (outcome_of_run (Ok None)) = subst (λ (o : Option ℕ). AnswersOfRun c.args.self.now c.finish_delivered.new.self (caller.Worker c.args.worker) c.args.ticket (outcome_of_run (Ok o))) c.in-Ok-None.field-0-is c.in-Ok-None.ensures.answer in
    inr (subst (λ (b : BookView). TellsFit (Fits b.state c.args.ticket (arc_value c.args.run)) c.finish.result × IfOk c.finish.result (λ version. Publishes b.state c.finish.new.self.state c.args.ticket version (arc_value c.args.run))) none.1 (c.finish.ensures.fits, c.finish.ensures.published))

pub returns-in-Ok-Some-clause-run : goal.returns-in-Ok-Some-clause-run
returns-in-Ok-Some-clause-run g c =
    let stands = subst (λ (o : Option ℕ). TellsStanding (Stands c.args.self.now.state c.args.ticket) (outcome_of_run (Ok o))) c.in-Ok-Some.field-0-is c.in-Ok-Some.ensures.stands in
    let published = subst (λ (o : Option ℕ). IfSome o (PublishesFitting c.args.self.now.state c.finish_delivered.new.self.state c.args.ticket)) c.in-Ok-Some.field-0-is c.in-Ok-Some.ensures.published in
    inl (stands, published)

pub returns-in-Err-clause-run : goal.returns-in-Err-clause-run
returns-in-Err-clause-run g c = inl (c.in-Err.ensures.stands, tt)
