use Rattle.std.proofs.Common.{rules, ◌≡◌, map, refl, ap, ◌∙◌}
use Rattle.std.specs.Prelude.{Err}
use Rattle.book_machine.specs.declared.caller.Caller.TheVariants as caller
use Rattle.book_machine.specs.Call.{View}
use Rattle.book_machine.specs.Noted.{noted_of}
use Rattle.version_book.specs.Book.{BookView}
use Rattle.version_book.specs.Answers.{view_answer}
use Rattle.version_book.proofs.Histories.{called, answered, has-capacity, journal-is, no-note}
use Rattle.version_book.proofs.Looking.{no-note-true, shown-true}
use Rattle.version_book.proofs.book.Book.view.Goals as goal

pub returns-in_err-reserve_note-clause-answer : goal.returns-in_err-reserve_note-clause-answer
returns-in_err-reserve_note-clause-answer g c =
    let outcome : c.from_residual.result ≡ Err c.in_err-reserve_note.field-0.0 = search rules in
    no-note noted_of c.self.inside.journal.items c.reserve_note.new.journal.items (caller.Session c.args.session) (View c.args.id c.args.seen) _ c.in_err-reserve_note.field-0.0 c.self.view_is c.self.invariant refl c.in_err-reserve_note.ensures.items c.in_err-reserve_note.ensures.refused (λ e. ap view_answer (outcome ∙ ap Err e)) (λ e. ap view_answer (outcome ∙ ap Err e))

pub invariant_of-self-2 : goal.invariant_of-self-2
invariant_of-self-2 g c =
    let new : BookView = record { state = c.self.inside.state; journal = map noted_of c.note.new.journal.items } in
    let journal = journal-is noted_of c.self.inside.journal.items _ _ (caller.Session c.args.session) _ (View c.args.id c.args.seen) _ _ c.note.ensures c.in_ok-reserve_note.ensures.items refl c.view_reply-reply.ensures in
    let capacity = has-capacity noted_of c.self.inside.journal.items c.in_ok-reserve_note.ensures.few in
    (called _ new (caller.Session c.args.session) (View c.args.id c.args.seen) _ c.self.invariant capacity c.view-outcome.ensures.answer journal).0

pub returns-clause-answer : goal.returns-clause-answer
returns-clause-answer g c =
    let new : BookView = record { state = c.self.inside.state; journal = map noted_of c.note.new.journal.items } in
    let journal = journal-is noted_of c.self.inside.journal.items _ _ (caller.Session c.args.session) _ (View c.args.id c.args.seen) _ _ c.note.ensures c.in_ok-reserve_note.ensures.items refl c.view_reply-reply.ensures in
    let capacity = has-capacity noted_of c.self.inside.journal.items c.in_ok-reserve_note.ensures.few in
    answered new (caller.Session c.args.session) (View c.args.id c.args.seen) _ c.self.view_is c.self.invariant capacity c.view-outcome.ensures.answer journal

pub returns-in_err-reserve_note-clause-right : goal.returns-in_err-reserve_note-clause-right
returns-in_err-reserve_note-clause-right g c =
    let outcome : c.from_residual.result ≡ Err c.in_err-reserve_note.field-0.0 = search rules in
    rw outcome (no-note-true _ c.args.id _ c.in_err-reserve_note.field-0.0 c.in_err-reserve_note.ensures.refused)

pub returns-clause-right : goal.returns-clause-right
returns-clause-right g c = shown-true c.each_run_is_simulated.ensures c.self.inside.state c.args.id c.args.seen _ c.self.view_is c.self.invariant c.view-outcome.ensures.shown c.view-outcome.ensures.answer
