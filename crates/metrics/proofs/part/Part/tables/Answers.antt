use Rattle.metrics.proofs.Tallies.{busy_below}
use Rattle.metrics.proofs.part.Part.tables.Goals as goal

pub over_all-requires : goal.over_all-requires
over_all-requires g c = busy_below _ c.self.invariant
