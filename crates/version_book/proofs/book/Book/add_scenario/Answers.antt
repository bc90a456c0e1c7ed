use Rattle.std.proofs.Common.{rules, ◌≡◌, map, refl, ap, ◌∙◌}
use Rattle.std.specs.Prelude.{Err}
use Rattle.book_machine.specs.declared.caller.Caller.TheVariants as caller
use Rattle.book_machine.specs.Call.{AddScenario}
use Rattle.book_machine.specs.Noted.{noted_of}
use Rattle.version_book.specs.Book.{BookView}
use Rattle.version_book.specs.Answers.{add_answer}
use Rattle.version_book.proofs.Histories.{called, answered, has-capacity, journal-is, no-note}
use Rattle.version_book.proofs.book.Book.add_scenario.Goals as goal

pub returns-in_err-reserve_note : goal.returns-in_err-reserve_note
returns-in_err-reserve_note g c =
    let outcome : c.from_residual.result ≡ Err c.in_err-reserve_note.field-0.0 = search rules in
    no-note noted_of c.self.inside.journal.items c.reserve_note.new.journal.items (caller.Session c.args.session) (AddScenario c.args.name.now c.args.scenario) _ c.in_err-reserve_note.field-0.0 c.self.view_is c.self.invariant refl c.in_err-reserve_note.ensures.items c.in_err-reserve_note.ensures.refused (λ e. ap add_answer (outcome ∙ ap Err e)) (λ e. ap add_answer (outcome ∙ ap Err e))

pub invariant_of-self-2 : goal.invariant_of-self-2
invariant_of-self-2 g c =
    let new : BookView = record { state = c.add-outcome.new.self; journal = map noted_of c.note.new.journal.items } in
    let journal = journal-is noted_of c.self.inside.journal.items _ _ (caller.Session c.args.session) _ (AddScenario c.args.name.now c.args.scenario) _ _ c.note.ensures c.in_ok-reserve_note.ensures.items (ap (λ n. AddScenario n c.args.scenario) c.in_ok-new.ensures) c.add_reply-reply.ensures in
    let capacity = has-capacity noted_of c.self.inside.journal.items c.in_ok-reserve_note.ensures.few in
    (called _ new (caller.Session c.args.session) (AddScenario c.args.name.now c.args.scenario) _ c.self.invariant capacity c.add-outcome.ensures journal).0

pub returns : goal.returns
returns g c =
    let new : BookView = record { state = c.add-outcome.new.self; journal = map noted_of c.note.new.journal.items } in
    let journal = journal-is noted_of c.self.inside.journal.items _ _ (caller.Session c.args.session) _ (AddScenario c.args.name.now c.args.scenario) _ _ c.note.ensures c.in_ok-reserve_note.ensures.items (ap (λ n. AddScenario n c.args.scenario) c.in_ok-new.ensures) c.add_reply-reply.ensures in
    let capacity = has-capacity noted_of c.self.inside.journal.items c.in_ok-reserve_note.ensures.few in
    answered new (caller.Session c.args.session) (AddScenario c.args.name.now c.args.scenario) _ c.self.view_is c.self.invariant capacity c.add-outcome.ensures journal
