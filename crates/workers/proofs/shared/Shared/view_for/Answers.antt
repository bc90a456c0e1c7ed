use Rattle.std.proofs.Common.{refl}
use Rattle.book_machine.specs.declared.caller.Caller.TheVariants as caller
use Rattle.book_machine.specs.Call.{View}
use Rattle.workers.proofs.Gaining.{gains}
use Rattle.workers.proofs.Tying.{accepted, tied, viewed}
use Rattle.workers.proofs.shared.Shared.view_for.Goals as goal

pub followed-reply-requires : goal.followed-reply-requires
followed-reply-requires g c = record { accepted = accepted _ _ _ _ _ _ _ (caller.Session c.args.session) (View c.args.id c.args.seen) _ _ c.self.invariant c.view-outcome.ensures.answer c.notes_in-notes.ensures.count }

pub returns-clause-list : goal.returns-clause-list
returns-clause-list g c = gains _ _ _ _ _ _ _ _ _ _ c.view-outcome.ensures.answer c.notes_in-notes.ensures.count c.followed-reply.ensures.reply refl c.keep.ensures

pub returns-clause-history : goal.returns-clause-history
returns-clause-history g c = viewed _ _ _ _ _ _ _ _ _ _ _ _ _ _ _ _ c.self.invariant c.view-outcome.ensures.answer c.notes_in-notes.ensures.count c.followed-reply.ensures.whole c.follow.ensures c.followed-reply.ensures.front c.view-outcome.ensures.right

pub invariant_of-self : goal.invariant_of-self
invariant_of-self g c = tied _ _ _ _ _ _ _ _ (caller.Session c.args.session) (View c.args.id c.args.seen) _ _ c.self.invariant c.view-outcome.ensures.answer c.notes_in-notes.ensures.count c.followed-reply.ensures.whole

pub returns-clause-book : goal.returns-clause-book
returns-clause-book g c = rw (← c.self.view_is) c.view-outcome.ensures.answer
