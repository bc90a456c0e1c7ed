use Rattle.std.proofs.Common.{length}
use Rattle.checkpoints.proofs.rebuilding.+are_in_row.Given as goal

abbrev pub decreases-are_in_row : goal.decreases-are_in_row
decreases-are_in_row l = length l.places.now
