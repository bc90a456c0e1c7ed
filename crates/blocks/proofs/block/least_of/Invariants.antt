use Rattle.std.proofs.Common.{◌≤◌, take}
use Rattle.std.specs.List.{All}
use Rattle.blocks.proofs.block.least_of.Given as goal

abbrev pub invariant-loop-item : goal.invariant-loop-item
invariant-loop-item g l = All (λ x. l.least ≤ g.T.Ranked.weight x) (take l.item-index l.items)
