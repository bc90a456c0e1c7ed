use Rattle.std.proofs.Common.{◌∙◌, ap, arith}
use Rattle.cluster_state.specs.State.{placed}
use Rattle.cluster_state.proofs.NumberLemmas.{placed-next, none-before}
use Rattle.cluster_state.proofs.running_set.RunningSet.of.Goals as goal

pub join-requires-clause-absent : goal.join-requires-clause-absent
join-requires-clause-absent g c = rw c.loop-r.invariant.running (none-before c.args.running.now c.loop-r.r-index c.r-item.result c.requires.once c.loop-r-test.true c.r-item.is)

pub loop-r-preserved : goal.loop-r-preserved
loop-r-preserved g c = record {
  running = c.join.ensures.running ∙ ap (placed c.r-item.result) c.loop-r.invariant.running ∙ placed-next c.args.running.now c.loop-r.r-index c.r-item.result c.requires.rises c.loop-r-test.true c.r-item.is;
  spare = omega (arith, c.join.ensures.spare, c.loop-r.invariant.spare);
}
