use Rattle.std.proofs.Common.{◌+◌, ◌-◌}
use Rattle.easy_rule.specs.Simulation.{bound}
use Rattle.rejoin.specs.Joining.{IsWorking}
use Rattle.rejoin.proofs.patch.work_to.Given as goal

abbrev pub invariant-segments : goal.invariant-segments
invariant-segments g l = IsWorking l.change l.spacing l.at l.patch

abbrev pub decreases-segments : goal.decreases-segments
decreases-segments g l = bound l.change.is + 1 - l.patch.engine.position
