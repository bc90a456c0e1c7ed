use Rattle.std.specs.List.{All}
use Rattle.workers.specs.Callers.{WorkerView}
use Rattle.easybook.specs.Along.{AreWork}
use Rattle.easybook.proofs.threads.workers_in.Given as goal

abbrev pub invariant-loop-thread : goal.invariant-loop-thread
invariant-loop-thread g l = All (λ (w : WorkerView). AreWork w.list) l.workers.items
