use Rattle.easybook.proofs.Workings.{new_work}
use Rattle.easybook.proofs.worker_thread.WorkerThread.new.Goals as goal

pub invariant_of-result : goal.invariant_of-result
invariant_of-result g c = new_work _ c.requires
