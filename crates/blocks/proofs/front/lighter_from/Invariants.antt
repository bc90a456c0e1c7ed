use Rattle.std.proofs.Common.{◌≡◌, ◌+◌, ◌≤◌}
use Rattle.blocks.specs.Rows.{weight_to}
use Rattle.blocks.proofs.front.lighter_from.Given as goal

abbrev pub invariant-loop-number : goal.invariant-loop-number
invariant-loop-number g l =
    record {
      sum : weight_to g.T.Ranked.weight l.first l.blocks + l.than ≡ weight_to g.T.Ranked.weight l.number l.blocks + l.left;
      some : 1 ≤ l.than → 1 ≤ l.left;
    }
