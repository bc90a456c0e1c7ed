use Rattle.std.proofs.Common.{subst, sym}
use Rattle.std.specs.List.{All}
use Rattle.std.proofs.lemmas.List.Elements.{All-nil, All-push}
use Rattle.workers.specs.Callers.{WorkerView}
use Rattle.easybook.specs.Along.{AreWork}
use Rattle.easybook.proofs.threads.workers_in.Goals as goal

pub loop-thread-init : goal.loop-thread-init
loop-thread-init g c = subst (All (λ (w : WorkerView). AreWork w.list)) (sym c.in_ok-workers.ensures.items) (All-nil (λ (w : WorkerView). AreWork w.list))

pub loop-thread-preserved : goal.loop-thread-preserved
loop-thread-preserved g c =
    subst (All (λ (w : WorkerView). AreWork w.list)) (sym c.in_ok-push.ensures.items)
    (All-push (λ (w : WorkerView). AreWork w.list) c.loop-thread.workers.items c.into_worker.result c.loop-thread.invariant c.into_worker.ensures)
