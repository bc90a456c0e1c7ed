use Rattle.std.proofs.Common.{sym, subst}
use Rattle.cluster_state.specs.Ends.{RisesByEnd}
use Rattle.cluster_state.proofs.EndLemmas.{rises-of, permuted-by_end}
use Rattle.cluster_state.proofs.cluster.Cluster.running_by_end.Goals as goal

pub returns-clause-rising : goal.returns-clause-rising
returns-clause-rising g c = subst RisesByEnd (sym c.by_end.ensures.runners) (rises-of _ c.self.invariant.sound)

pub returns-clause-each : goal.returns-clause-each
returns-clause-each g c = rw (← c.self.view_is, c.by_end.ensures.runners) (permuted-by_end c.self.inside.running.running)
