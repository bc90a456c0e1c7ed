use Rattle.std.proofs.Common.{◌≡◌, length}
use Rattle.event_loop.proofs.ToCome.{Arriving}
use Rattle.event_loop.proofs.arrivals.arrive_all.Given as goal

abbrev pub invariant-jobs : goal.invariant-jobs
invariant-jobs g l = record {
  arriving : Arriving l.fn.cluster.state l.cluster.state l.second l.fn.row.items l.row.items;
  running : l.cluster.state.running ≡ l.fn.cluster.state.running;
}

abbrev pub decreases-jobs : goal.decreases-jobs
decreases-jobs g l = length l.row.items
