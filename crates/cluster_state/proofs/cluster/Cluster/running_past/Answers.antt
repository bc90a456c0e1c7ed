use Rattle.std.proofs.Common.{arith}
use Rattle.cluster_state.proofs.cluster.Cluster.running_past.Goals as goal

pub returns-clause-past : goal.returns-clause-past
returns-clause-past g c =
    rw (← c.self.view_is)
    (record {
      passed = c.past-held.ensures.rest.passed;
      order = c.past-held.ensures.rest.order;
      gives = omega (arith, c.past-held.ensures.rest.hold, c.self.invariant.accounted);
      short = omega (arith, c.past-held.ensures.fewer);
    })

pub returns-clause-most : goal.returns-clause-most
returns-clause-most g c =
    rw (← c.self.view_is)
    (λ within.
    let most = c.past-held.ensures.most (omega (arith, within, c.self.invariant.accounted)) in
    omega (arith, most, c.requires))
