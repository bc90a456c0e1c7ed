use Rattle.std.proofs.Common.{◌≡◌, ◌+◌}
use Rattle.blocks.specs.Rows.{weight_to}
use Rattle.blocks.proofs.front.weight_in.Given as goal

abbrev pub invariant-loop-number : goal.invariant-loop-number
invariant-loop-number g l = weight_to g.T.Ranked.weight l.first l.blocks + l.weight ≡ weight_to g.T.Ranked.weight l.number l.blocks
