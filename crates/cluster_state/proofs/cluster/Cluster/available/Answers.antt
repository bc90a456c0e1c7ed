use Rattle.std.proofs.Common.{arith}
use Rattle.cluster_state.proofs.cluster.Cluster.available.Goals as goal

pub returns : goal.returns
returns g c = rw (← c.self.view_is) (omega (arith, c.back_by.ensures.value, c.self.invariant.accounted))
