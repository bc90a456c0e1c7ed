use Rattle.std.proofs.Common.{◌+◌, ◌-◌}
use Rattle.scenarios.specs.PlanView.{plan_in}
use Rattle.easy_rule.specs.Simulation.{bound}
use Rattle.checkpoints.specs.Pieces.{all_in}
use Rattle.checkpoints.specs.Worked.{Cutting}
use Rattle.checkpoints.proofs.simulation.worked.Given as goal

abbrev pub invariant-segments : goal.invariant-segments
invariant-segments g l = Cutting (plan_in l.view) l.spacing l.engine (all_in (plan_in l.view) l.segments)

abbrev pub decreases-segments : goal.decreases-segments
decreases-segments g l = bound (plan_in l.view) + 1 - l.engine.position
