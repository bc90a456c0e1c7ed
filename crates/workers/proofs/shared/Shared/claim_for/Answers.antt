use Rattle.std.proofs.Common.{refl}
use Rattle.book_machine.specs.declared.caller.Caller.TheVariants as caller
use Rattle.book_machine.specs.Call.{Claim}
use Rattle.workers.proofs.Gaining.{gains}
use Rattle.workers.proofs.Tying.{accepted, called, tied}
use Rattle.workers.proofs.shared.Shared.claim_for.Goals as goal

pub followed-reply-requires : goal.followed-reply-requires
followed-reply-requires g c = record { accepted = accepted _ _ _ _ _ _ _ (caller.Worker c.args.worker) (Claim) _ _ c.self.invariant c.claim-outcome.ensures.answer c.notes_in-notes.ensures.count }

pub returns-clause-list : goal.returns-clause-list
returns-clause-list g c = gains _ _ _ _ _ _ _ _ _ _ c.claim-outcome.ensures.answer c.notes_in-notes.ensures.count c.followed-reply.ensures.reply refl c.keep.ensures

pub returns-clause-history : goal.returns-clause-history
returns-clause-history g c = called _ _ _ _ _ _ _ _ (caller.Worker c.args.worker) (Claim) _ _ _ _ _ c.self.invariant c.claim-outcome.ensures.answer c.notes_in-notes.ensures.count c.followed-reply.ensures.whole c.follow.ensures c.followed-reply.ensures.front

pub invariant_of-self : goal.invariant_of-self
invariant_of-self g c = tied _ _ _ _ _ _ _ _ (caller.Worker c.args.worker) (Claim) _ _ c.self.invariant c.claim-outcome.ensures.answer c.notes_in-notes.ensures.count c.followed-reply.ensures.whole

pub returns-clause-book : goal.returns-clause-book
returns-clause-book g c = rw (← c.self.view_is) c.claim-outcome.ensures.answer
