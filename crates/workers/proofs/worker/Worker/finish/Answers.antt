use Rattle.std.proofs.Common.{rules, ◌≡◌, ◌∙◌}
use Rattle.std.specs.Prelude.{Err}
use Rattle.book_machine.specs.declared.caller.Caller.TheVariants as caller
use Rattle.book_machine.specs.Call.{Finish}
use Rattle.version_book.specs.Answers.{fitted}
use Rattle.version_book.specs.declared.refusal.Refusal.TheVariants as refusals
use Rattle.workers.specs.declared.worker.WorkerEnd.TheVariants as ends
use Rattle.workers.proofs.Ending.{finish_ends, works_called, works_nothing}
use Rattle.workers.proofs.worker.Worker.finish.Goals as goal

pub returns-in_err-reserve_call-clause-list : goal.returns-in_err-reserve_call-clause-list
returns-in_err-reserve_call-clause-list g c = (Err refusals.Memory, search rules, search rules)

pub returns-in_err-reserve_call-clause-history : goal.returns-in_err-reserve_call-clause-history
returns-in_err-reserve_call-clause-history g c =
    let e : c.from_residual.result ≡ Err ends.Memory = search rules in
    rw (← c.self.view_is, e) (works_nothing g.J.Naming.opening _)

pub returns-clause-history : goal.returns-clause-history
returns-clause-history g c = rw (← c.self.view_is) (works_called _ _ (caller.Worker c.self.inside.number) (Finish c.args.ticket (fitted c.finish_for-outcome.result)) _ _ _ c.finish_for-outcome.ensures.history (c.end_of.ensures ∙ finish_ends c.finish_for-outcome.result))
