use Rattle.workers.proofs.desk.Desk.open_worker.Goals as goal

pub returns-clause-opened : goal.returns-clause-opened
returns-clause-opened g c = rw c.new.ensures c.in_ok-number.ensures.front
