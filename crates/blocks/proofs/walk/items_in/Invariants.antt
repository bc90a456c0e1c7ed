use Rattle.std.proofs.Common.{◌≡◌, ◌+◌}
use Rattle.blocks.specs.Rows.{start}
use Rattle.blocks.proofs.walk.items_in.Given as goal

abbrev pub invariant-loop-number : goal.invariant-loop-number
invariant-loop-number g l = start l.first l.blocks + l.items ≡ start l.number l.blocks
