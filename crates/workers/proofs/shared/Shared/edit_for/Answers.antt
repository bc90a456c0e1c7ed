use Rattle.book_machine.specs.declared.caller.Caller.TheVariants as caller
use Rattle.job_table.specs.Edit.{edit_of}
use Rattle.book_machine.specs.Call.{Edit as Edits}
use Rattle.workers.proofs.Gaining.{gains}
use Rattle.workers.proofs.Tying.{accepted, called, tied}
use Rattle.workers.proofs.shared.Shared.edit_for.Goals as goal

pub followed-reply-requires : goal.followed-reply-requires
followed-reply-requires g c = record { accepted = accepted _ _ _ _ _ _ _ (caller.Session c.args.session) (Edits (edit_of c.args.edit.now)) _ _ c.self.invariant c.edit-outcome.ensures c.notes_in-notes.ensures.count }

pub returns-clause-list : goal.returns-clause-list
returns-clause-list g c = gains _ _ _ _ _ _ _ _ _ _ c.edit-outcome.ensures c.notes_in-notes.ensures.count c.followed-reply.ensures.reply c.requires.call c.keep.ensures

pub returns-clause-history : goal.returns-clause-history
returns-clause-history g c = called _ _ _ _ _ _ _ _ (caller.Session c.args.session) (Edits (edit_of c.args.edit.now)) _ _ _ _ _ c.self.invariant c.edit-outcome.ensures c.notes_in-notes.ensures.count c.followed-reply.ensures.whole c.follow.ensures c.followed-reply.ensures.front

pub invariant_of-self : goal.invariant_of-self
invariant_of-self g c = tied _ _ _ _ _ _ _ _ (caller.Session c.args.session) (Edits (edit_of c.args.edit.now)) _ _ c.self.invariant c.edit-outcome.ensures c.notes_in-notes.ensures.count c.followed-reply.ensures.whole
