use Rattle.std.proofs.Common.{◌+◌, ◌-◌, ◌*◌, ◌≤◌}
use Rattle.waiting_places.specs.Tree.{IsWhole}
use Rattle.waiting_places.proofs.growth.power_from.Given as goal

abbrev pub invariant-loop-power : goal.invariant-loop-power
invariant-loop-power l = record { whole : IsWhole (2 * l.power); some : 1 ≤ l.power; few : l.power ≤ 2 * l.count + 1 }

abbrev pub decreases-loop-power : goal.decreases-loop-power
decreases-loop-power l = l.count - l.power
