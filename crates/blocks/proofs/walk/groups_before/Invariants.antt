use Rattle.std.proofs.Common.{◌≡◌, ◌+◌, take}
use Rattle.std.specs.List.{sum_by}
use Rattle.blocks.proofs.walk.groups_before.Given as goal

abbrev pub invariant-loop-number : goal.invariant-loop-number
invariant-loop-number l = sum_by (λ g. g.items) (take l.number l.groups) + l.left ≡ l.place
