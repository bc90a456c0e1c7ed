use Rattle.std.proofs.Common.{length}
use Rattle.checkpoints.proofs.merged.+merged.Given as goal

abbrev pub decreases-merged : goal.decreases-merged
decreases-merged g l = length l.parts.now
