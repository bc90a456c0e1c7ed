use Rattle.std.proofs.Common.{◌-◌}
use Rattle.chunks.proofs.Lists.{AreCut}
use Rattle.chunks.proofs.pieces.chunks_of.Given as goal

abbrev pub invariant-chunks : goal.invariant-chunks
invariant-chunks g l = AreCut l.from l.fn.items.items l.row.items

abbrev pub decreases-chunks : goal.decreases-chunks
decreases-chunks g l = l.len - l.from
