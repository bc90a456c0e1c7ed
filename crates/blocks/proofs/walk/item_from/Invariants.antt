use Rattle.std.proofs.Common.{◌≡◌, drop, slice_get}
use Rattle.blocks.specs.Rows.{flat}
use Rattle.blocks.proofs.walk.item_from.Given as goal

abbrev pub invariant-loop-number : goal.invariant-loop-number
invariant-loop-number g l = slice_get (flat (drop l.number l.blocks)) l.left ≡ slice_get (flat (drop l.first l.blocks)) l.place
