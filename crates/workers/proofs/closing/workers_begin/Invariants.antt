use Rattle.std.proofs.Common.{ℕ, ◌<◌, get_or}
use Rattle.chronicle.specs.Fronts.{Begins}
use Rattle.workers.specs.Callers.{WorkerView}
use Rattle.workers.proofs.closing.workers_begin.Given as goal

abbrev pub invariant-loop-worker : goal.invariant-loop-worker
invariant-loop-worker g l = (k : ℕ) (d : WorkerView) → k < l.worker-index → Begins (get_or l.workers k d).front l.whole
