use Rattle.std.proofs.Common.{ap, subst}
use Rattle.std.specs.Arc.{arc_value}
use Rattle.book_machine.specs.declared.caller.Caller.TheVariants as caller
use Rattle.version_book.specs.Answers.{fitted}
use Rattle.book_machine.specs.Call.{Finish}
use Rattle.version_book.specs.Tasks.{IsHandedIn}
use Rattle.workers.specs.Tied.{SharedView}
use Rattle.workers.proofs.Gaining.{gains}
use Rattle.workers.proofs.Tying.{accepted, called, tied}
use Rattle.workers.proofs.shared.Shared.finish_for.Goals as goal

pub followed-reply-requires : goal.followed-reply-requires
followed-reply-requires g c = record { accepted = accepted _ _ _ _ _ _ _ (caller.Worker c.args.worker) (Finish c.args.ticket (fitted c.hand_in-outcome.result)) _ _ c.self.invariant c.hand_in-outcome.ensures.answer c.notes_in-notes.ensures.count }

pub returns-clause-list : goal.returns-clause-list
returns-clause-list g c = gains _ _ _ _ _ _ _ _ _ _ c.hand_in-outcome.ensures.answer c.notes_in-notes.ensures.count c.followed-reply.ensures.reply (ap (λ f. Finish c.args.ticket f) c.fitted-fits.ensures) c.keep.ensures

pub returns-clause-history : goal.returns-clause-history
returns-clause-history g c = called _ _ _ _ _ _ _ _ (caller.Worker c.args.worker) (Finish c.args.ticket (fitted c.hand_in-outcome.result)) _ _ _ _ _ c.self.invariant c.hand_in-outcome.ensures.answer c.notes_in-notes.ensures.count c.followed-reply.ensures.whole c.follow.ensures c.followed-reply.ensures.front

pub invariant_of-self : goal.invariant_of-self
invariant_of-self g c = tied _ _ _ _ _ _ _ _ (caller.Worker c.args.worker) (Finish c.args.ticket (fitted c.hand_in-outcome.result)) _ _ c.self.invariant c.hand_in-outcome.ensures.answer c.notes_in-notes.ensures.count c.followed-reply.ensures.whole

pub returns-clause-book : goal.returns-clause-book
returns-clause-book g c = rw (← c.self.view_is) c.hand_in-outcome.ensures.answer

pub returns-clause-run : goal.returns-clause-run
returns-clause-run g c = subst (λ (v : SharedView). IsHandedIn v.book.state c.hand_in-outcome.new.self.state c.args.ticket (arc_value c.args.run) c.hand_in-outcome.result) c.self.view_is c.hand_in-outcome.ensures.run
