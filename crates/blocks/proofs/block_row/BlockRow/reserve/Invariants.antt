use Rattle.std.proofs.Common.{◌≡◌, ◌≤◌, ◌-◌}
use Rattle.blocks.proofs.block_row.BlockRow.reserve.Given as goal

abbrev pub invariant-capacity : goal.invariant-capacity
invariant-capacity g l = record { same : l.self.blocks ≡ l.fn.self.blocks; more : l.fn.self.spare ≤ l.self.spare }

abbrev pub decreases-capacity : goal.decreases-capacity
decreases-capacity g l = l.count - l.self.spare
