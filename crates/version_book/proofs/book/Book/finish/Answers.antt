use Rattle.std.proofs.Common.{rules, ◌≡◌, length, map, refl, sym, ap, subst, ◌∙◌}
use Rattle.std.specs.Prelude.{Err}
use Rattle.std.specs.Arc.{arc_value}
use Rattle.book_machine.specs.declared.caller.Caller.TheVariants as caller
use Rattle.book_machine.specs.Call.{Finish}
use Rattle.book_machine.specs.Noted.{noted_of}
use Rattle.version_book.specs.Book.{BookView}
use Rattle.version_book.specs.Answers.{TellsFit, finish_answer, fitted}
use Rattle.version_book.specs.Tasks.{Fits}
use Rattle.version_book.proofs.Histories.{called, answered, has-capacity, journal-is, no-note, no-note-fits}
use Rattle.version_book.proofs.WorkerSteps.{published-as}
use Rattle.version_book.proofs.book.Book.finish.Goals as goal

pub returns-in_err-reserve_note-clause-answer : goal.returns-in_err-reserve_note-clause-answer
returns-in_err-reserve_note-clause-answer g c =
    let outcome : c.from_residual.result ≡ Err c.in_err-reserve_note.field-0.0 = search rules in
    no-note noted_of c.self.inside.journal.items c.reserve_note.new.journal.items (caller.Worker c.args.worker) (Finish c.args.ticket (fitted c.from_residual.result)) _ c.in_err-reserve_note.field-0.0 c.self.view_is c.self.invariant refl c.in_err-reserve_note.ensures.items c.in_err-reserve_note.ensures.refused (λ e. ap finish_answer (outcome ∙ ap Err e)) (λ e. ap finish_answer (outcome ∙ ap Err e))

pub returns-in_err-reserve_note-clause-fits : goal.returns-in_err-reserve_note-clause-fits
returns-in_err-reserve_note-clause-fits g c =
    let outcome : c.from_residual.result ≡ Err c.in_err-reserve_note.field-0.0 = search rules in
    subst (TellsFit (Fits c.args.self.now.state c.args.ticket (arc_value c.args.run))) (sym outcome) (no-note-fits _ (length c.self.inside.journal.items) c.in_err-reserve_note.field-0.0 c.in_err-reserve_note.ensures.refused)

pub invariant_of-self-2 : goal.invariant_of-self-2
invariant_of-self-2 g c =
    let new : BookView = record { state = c.finish-outcome.new.self; journal = map noted_of c.note.new.journal.items } in
    let journal = journal-is noted_of c.self.inside.journal.items _ _ (caller.Worker c.args.worker) _ (Finish c.args.ticket (fitted c.finish-outcome.result)) _ _ c.note.ensures c.in_ok-reserve_note.ensures.items (ap (Finish c.args.ticket) c.fitted-fits.ensures) c.finish_reply-reply.ensures in
    let capacity = has-capacity noted_of c.self.inside.journal.items c.in_ok-reserve_note.ensures.few in
    (called _ new (caller.Worker c.args.worker) (Finish c.args.ticket (fitted c.finish-outcome.result)) _ c.self.invariant capacity c.finish-outcome.ensures.does journal).0

pub returns-clause-answer : goal.returns-clause-answer
returns-clause-answer g c =
    let new : BookView = record { state = c.finish-outcome.new.self; journal = map noted_of c.note.new.journal.items } in
    let journal = journal-is noted_of c.self.inside.journal.items _ _ (caller.Worker c.args.worker) _ (Finish c.args.ticket (fitted c.finish-outcome.result)) _ _ c.note.ensures c.in_ok-reserve_note.ensures.items (ap (Finish c.args.ticket) c.fitted-fits.ensures) c.finish_reply-reply.ensures in
    let capacity = has-capacity noted_of c.self.inside.journal.items c.in_ok-reserve_note.ensures.few in
    answered new (caller.Worker c.args.worker) (Finish c.args.ticket (fitted c.finish-outcome.result)) _ c.self.view_is c.self.invariant capacity c.finish-outcome.ensures.does journal

pub returns-clause-published : goal.returns-clause-published
returns-clause-published g c = published-as c.finish-outcome.new.self c.args.ticket (arc_value c.args.run) c.finish-outcome.result (ap (λ (b : BookView). b.state) c.self.view_is) c.finish-outcome.ensures.published
