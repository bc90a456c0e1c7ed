use Rattle.std.proofs.Common.{◌≡◌, ◌++◌, length}
use Rattle.checkpoints.proofs.schedule.listed.Given as goal

abbrev pub invariant-rows : goal.invariant-rows
invariant-rows g l = l.list.items ++ l.rows ≡ l.fn.rows

abbrev pub decreases-rows : goal.decreases-rows
decreases-rows g l = length l.rows
