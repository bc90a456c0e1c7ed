use Rattle.std.proofs.Common.{rules, ◌≡◌, map, refl, ap, ◌∙◌}
use Rattle.std.specs.Prelude.{Err}
use Rattle.book_machine.specs.declared.caller.Caller.TheVariants as caller
use Rattle.book_machine.specs.Call.{Claim}
use Rattle.book_machine.specs.Noted.{noted_of}
use Rattle.version_book.specs.Book.{BookView}
use Rattle.version_book.specs.Answers.{claim_answer}
use Rattle.version_book.proofs.Histories.{called, answered, has-capacity, journal-is, no-note}
use Rattle.version_book.proofs.Claimed.{next-unused, out-of}
use Rattle.version_book.proofs.book.Book.claim.Goals as goal

pub returns-in_err-reserve_note-clause-answer : goal.returns-in_err-reserve_note-clause-answer
returns-in_err-reserve_note-clause-answer g c =
    let outcome : c.from_residual.result ≡ Err c.in_err-reserve_note.field-0.0 = search rules in
    no-note noted_of c.self.inside.journal.items c.reserve_note.new.journal.items (caller.Worker c.args.worker) (Claim) _ c.in_err-reserve_note.field-0.0 c.self.view_is c.self.invariant refl c.in_err-reserve_note.ensures.items c.in_err-reserve_note.ensures.refused (λ e. ap claim_answer (outcome ∙ ap Err e)) (λ e. ap claim_answer (outcome ∙ ap Err e))

pub invariant_of-self-2 : goal.invariant_of-self-2
invariant_of-self-2 g c =
    let new : BookView = record { state = c.claim-outcome.new.self; journal = map noted_of c.note.new.journal.items } in
    let journal = journal-is noted_of c.self.inside.journal.items _ _ (caller.Worker c.args.worker) _ (Claim) _ _ c.note.ensures c.in_ok-reserve_note.ensures.items refl c.claim_reply-reply.ensures in
    let capacity = has-capacity noted_of c.self.inside.journal.items c.in_ok-reserve_note.ensures.few in
    (called _ new (caller.Worker c.args.worker) (Claim) _ c.self.invariant capacity c.claim-outcome.ensures.does journal).0

pub returns-clause-answer : goal.returns-clause-answer
returns-clause-answer g c =
    let new : BookView = record { state = c.claim-outcome.new.self; journal = map noted_of c.note.new.journal.items } in
    let journal = journal-is noted_of c.self.inside.journal.items _ _ (caller.Worker c.args.worker) _ (Claim) _ _ c.note.ensures c.in_ok-reserve_note.ensures.items refl c.claim_reply-reply.ensures in
    let capacity = has-capacity noted_of c.self.inside.journal.items c.in_ok-reserve_note.ensures.few in
    answered new (caller.Worker c.args.worker) (Claim) _ c.self.view_is c.self.invariant capacity c.claim-outcome.ensures.does journal

pub returns-clause-out : goal.returns-clause-out
returns-clause-out g c = out-of c.self.inside.state c.claim-outcome.new.self c.claim-outcome.result (next-unused _ c.self.invariant) c.claim-outcome.ensures.task c.claim-outcome.ensures.tickets
