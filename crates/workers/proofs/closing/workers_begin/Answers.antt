use Rattle.std.proofs.Common.{rules, IsTrue, arith, refl}
use Rattle.chronicle.specs.Fronts.{Begins}
use Rattle.workers.specs.Callers.{WorkerView}
use Rattle.workers.proofs.Portions.{more}
use Rattle.workers.proofs.closing.workers_begin.Goals as goal

pub loop-worker-preserved : goal.loop-worker-preserved
loop-worker-preserved g c =
    let yes : IsTrue c.begins.result = search rules in
    more (λ (w : WorkerView). Begins w.front c.args.whole.now) c.args.workers.now c.loop-worker.worker-index c.worker-item.result c.loop-worker.invariant c.loop-worker-test.true c.worker-item.is (c.begins.ensures.0 yes)

pub returns : goal.returns
returns g c = ((λ t k d below. let end = c.loop-worker-test.false in c.loop-worker.invariant k d (omega arith)), (λ all. refl))
