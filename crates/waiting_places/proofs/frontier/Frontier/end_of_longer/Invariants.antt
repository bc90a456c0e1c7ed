use Rattle.std.proofs.Common.{◌-◌}
use Rattle.waiting_places.specs.Bounds.{AreAsLong}
use Rattle.waiting_places.proofs.frontier.Frontier.end_of_longer.Given as goal

abbrev pub invariant-loop-end : goal.invariant-loop-end
invariant-loop-end l = AreAsLong l.self l.corner.estimate l.from l.end

abbrev pub decreases-loop-end : goal.decreases-loop-end
decreases-loop-end l = l.self.len - l.end
