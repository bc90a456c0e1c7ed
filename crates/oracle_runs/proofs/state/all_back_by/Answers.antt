use Rattle.std.proofs.Common.{ap, arith}
use Rattle.std.proofs.lemmas.List.Sums.{sum_by_more_le}
use Rattle.cluster_state.specs.State.{back_by}
use Rattle.easy_rule.proofs.Lemmas.{back-le-busy}
use Rattle.oracle_runs.proofs.state.all_back_by.Goals as goal

pub overflow_add-sum : goal.overflow_add-sum
overflow_add-sum c =
    let more = sum_by_more_le (back_by c.args.t) c.args.running.now c.loop-r.r-index c.r-item.result c.loop-r-test.true in
    let is = ap (back_by c.args.t) c.r-item.is in
    omega (arith, more, is, back-le-busy c.args.t c.args.running.now)
