use Rattle.std.proofs.Common.{◌≡◌, ◌+◌, ◌≤◌, take}
use Rattle.std.specs.List.{sum_by}
use Rattle.blocks.proofs.front.lighter_groups.Given as goal

abbrev pub invariant-loop-number : goal.invariant-loop-number
invariant-loop-number l =
    record {
      sum : sum_by (λ g. g.weight) (take l.number l.groups) + l.left ≡ l.than;
      some : 1 ≤ l.than → 1 ≤ l.left;
    }
