use Rattle.workers.proofs.closing.close.Goals as goal

pub returns-clause-fault : goal.returns-clause-fault
returns-clause-fault g c = rw (c.reopened.ensures.fault, c.reopened.ensures.closed) c.in-Err.ensures.fault
