use Rattle.workers.proofs.Works.{hands_in}
use Rattle.workers.proofs.worker.Worker.work.Goals as goal

pub returns-clause-list : goal.returns-clause-list
returns-clause-list g c = hands_in _ _ _ _ _ _ c.ticket-ticket.ensures.value c.make.ensures.list
