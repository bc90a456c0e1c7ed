use Rattle.std.proofs.Common.{ℕ, ◌≤◌, ◌<◌, get_or}
use Rattle.blocks.specs.declared.groups.Group.{Group}
use Rattle.blocks.proofs.light.least_of_groups.Given as goal

abbrev pub invariant-loop-number : goal.invariant-loop-number
invariant-loop-number l = (k : ℕ) (d : Group) → k < l.number → l.least ≤ (get_or l.groups k d).least
