use Rattle.std.proofs.Common.{◌+◌, ◌*◌}
use Rattle.waiting_places.proofs.search.+first_below.Given as goal

abbrev pub decreases-first_below : goal.decreases-first_below
decreases-first_below t l = 2 * l.part.now.span + 1

abbrev pub decreases-first_within : goal.decreases-first_within
decreases-first_within t l = 2 * l.part.now.span
