use Rattle.version_book.proofs.Settlings.{fits-out}
use Rattle.version_book.proofs.settling.work.Goals as goal

pub end_task-requires : goal.end_task-requires
end_task-requires g c = fits-out c.args.book.now.state c.args.task.now _ _ c.requires c.ticket-ticket.ensures.value c.in-Ok.ensures.log c.in-Ok.ensures.scenario
