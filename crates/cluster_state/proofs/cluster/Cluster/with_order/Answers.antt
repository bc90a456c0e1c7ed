use Rattle.std.proofs.Common.{ap, arith}
use Rattle.cluster_state.specs.Capacities.{QueueView}
use Rattle.cluster_state.proofs.StateLemmas.{sound-empty}
use Rattle.cluster_state.proofs.cluster.Cluster.with_order.Goals as goal

pub invariant_of-result : goal.invariant_of-result
invariant_of-result g c =
    let empty = sound-empty (record { procs = c.args.procs; order = c.new.result.order; waiting = c.new.result.jobs; running = c.new-2.result.running }) c.requires (ap (λ (q : QueueView). q.jobs) c.new.ensures) c.new-2.ensures in
    record { accounted = omega (arith, empty.0); sound = empty.1 }
