use Rattle.easybook.proofs.Workings.{more_work}
use Rattle.easybook.proofs.worker_thread.WorkerThread.run.Goals as goal

pub invariant_of-self : goal.invariant_of-self
invariant_of-self g c = more_work _ _ c.self.invariant c.run.ensures.list
