use Rattle.std.proofs.Common.{rules, ◌≡◌, ℕ, length, map, refl, sym, ap, subst}
use Rattle.std.specs.Prelude.{Option, Some, Result, Err, false}
use Rattle.book_machine.specs.declared.caller.Caller.TheVariants as caller
use Rattle.book_machine.specs.Call.{Finish}
use Rattle.book_machine.specs.Noted.{noted_of}
use Rattle.version_book.specs.declared.faults.FinishFault.{FinishFault}
use Rattle.version_book.specs.declared.refusal.Refusal.{Refusal}
use Rattle.version_book.specs.Book.{BookView, StateView}
use Rattle.version_book.specs.Answers.{AnswersOfRun, TellsStanding, finish_answer, fitted, outcome_of_run}
use Rattle.version_book.specs.Steps.{Answers, memory}
use Rattle.version_book.specs.Tasks.{Stands}
use Rattle.version_book.proofs.Histories.{called, answered, has-capacity, journal-is, as-it-was, no-note, no-note-stands}
use Rattle.version_book.proofs.WorkerSteps.{fitting-as, published-left}
use Rattle.version_book.proofs.book.Book.finish_delivered.Goals as goal

pub returns-in_err-reserve_note-clause-answer : goal.returns-in_err-reserve_note-clause-answer
returns-in_err-reserve_note-clause-answer g c =
    let outcome : c.from_residual.result ≡ Err c.in_err-reserve_note.field-0.0 = search rules in
    let new : BookView = record { state = c.self.inside.state; journal = map noted_of c.reserve_note.new.journal.items } in
    let call = Finish c.args.ticket (fitted (Err c.in_err-reserve_note.field-0.0)) in
    subst (λ (r : Result (Option ℕ) (Refusal FinishFault)). AnswersOfRun c.args.self.now new (caller.Worker c.args.worker) c.args.ticket (outcome_of_run r)) (sym outcome) (no-note noted_of c.self.inside.journal.items c.reserve_note.new.journal.items (caller.Worker c.args.worker) call (finish_answer (Err c.in_err-reserve_note.field-0.0)) c.in_err-reserve_note.field-0.0 c.self.view_is c.self.invariant refl c.in_err-reserve_note.ensures.items c.in_err-reserve_note.ensures.refused (λ e. ap (λ (s : Refusal FinishFault). finish_answer (Err s)) e) (λ e. ap (λ (s : Refusal FinishFault). finish_answer (Err s)) e))

pub returns-in_err-reserve_note-clause-stands : goal.returns-in_err-reserve_note-clause-stands
returns-in_err-reserve_note-clause-stands g c =
    let outcome : c.from_residual.result ≡ Err c.in_err-reserve_note.field-0.0 = search rules in
    let told = no-note-stands (Stands c.args.self.now.state c.args.ticket) (length c.self.inside.journal.items) c.in_err-reserve_note.field-0.0 c.in_err-reserve_note.ensures.refused in
    subst (λ (r : Result (Option ℕ) (Refusal FinishFault)). TellsStanding (Stands c.args.self.now.state c.args.ticket) (outcome_of_run r)) (sym outcome) told

pub returns-in_default-clause-answer : goal.returns-in_default-clause-answer
returns-in_default-clause-answer g c =
    let still = as-it-was noted_of c.self.inside.journal.items c.reserve_note.new.journal.items (caller.Worker c.args.worker) (Finish c.args.ticket false) memory c.self.view_is refl c.in_ok-reserve_note.ensures.items c.in_ok-reserve_note.ensures.few refl in
    subst (λ (s : StateView). Answers c.args.self.now (record { state = s; journal = map noted_of c.reserve_note.new.journal.items }) (caller.Worker c.args.worker) (Finish c.args.ticket false) memory) (sym c.in_default.ensures.none) still

pub invariant_of-self-2 : goal.invariant_of-self-2
invariant_of-self-2 g c =
    let new : BookView = record { state = c.finish_delivered.new.self; journal = map noted_of c.note.new.journal.items } in
    let journal = journal-is noted_of c.self.inside.journal.items _ _ (caller.Worker c.args.worker) _ (Finish c.args.ticket (fitted c.in-Some.outcome)) _ _ c.note.ensures c.in_ok-reserve_note.ensures.items (ap (Finish c.args.ticket) c.fitted-fits.ensures) c.finish_reply-reply.ensures in
    let capacity = has-capacity noted_of c.self.inside.journal.items c.in_ok-reserve_note.ensures.few in
    (called _ new (caller.Worker c.args.worker) (Finish c.args.ticket (fitted c.in-Some.outcome)) _ c.self.invariant capacity c.in-Some.ensures.does journal).0

pub returns-clause-answer : goal.returns-clause-answer
returns-clause-answer g c =
    let new : BookView = record { state = c.finish_delivered.new.self; journal = map noted_of c.note.new.journal.items } in
    let journal = journal-is noted_of c.self.inside.journal.items _ _ (caller.Worker c.args.worker) _ (Finish c.args.ticket (fitted c.in-Some.outcome)) _ _ c.note.ensures c.in_ok-reserve_note.ensures.items (ap (Finish c.args.ticket) c.fitted-fits.ensures) c.finish_reply-reply.ensures in
    let capacity = has-capacity noted_of c.self.inside.journal.items c.in_ok-reserve_note.ensures.few in
    subst (AnswersOfRun c.args.self.now new (caller.Worker c.args.worker) c.args.ticket) (sym c.of_left.ensures) (answered new (caller.Worker c.args.worker) (Finish c.args.ticket (fitted c.in-Some.outcome)) _ c.self.view_is c.self.invariant capacity c.in-Some.ensures.does journal)

pub returns-clause-stands : goal.returns-clause-stands
returns-clause-stands g c =
    let before : TellsStanding (Stands c.args.self.now.state c.args.ticket) (Some c.in-Some.outcome) = subst (λ (b : BookView). TellsStanding (Stands b.state c.args.ticket) (Some c.in-Some.outcome)) c.self.view_is c.in-Some.ensures.stands in
    subst (TellsStanding (Stands c.args.self.now.state c.args.ticket)) (sym c.of_left.ensures) before

pub returns-clause-published : goal.returns-clause-published
returns-clause-published g c = published-left _ c.in-Some.outcome c.of_left.result c.of_left.ensures (fitting-as c.finish_delivered.new.self c.args.ticket c.in-Some.outcome (ap (λ (b : BookView). b.state) c.self.view_is) c.in-Some.ensures.published)
