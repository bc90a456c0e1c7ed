use Rattle.workers.proofs.session.Session.settle.Goals as goal

pub returns-clause-history : goal.returns-clause-history
returns-clause-history g c = rw (← c.self.view_is) c.settle.ensures.history
