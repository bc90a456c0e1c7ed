use Rattle.std.proofs.Common.{◌+◌, ◌-◌}
use Rattle.scenarios.specs.PlanView.{plan_in}
use Rattle.easy_rule.specs.Simulation.{bound}
use Rattle.checkpoints.proofs.Noted.{Noted}
use Rattle.checkpoints.proofs.planned.starts_of.Given as goal

abbrev pub invariant-events : goal.invariant-events
invariant-events g l = Noted (plan_in l.plan) l.engine l.noting l.count

abbrev pub decreases-events : goal.decreases-events
decreases-events g l = bound (plan_in l.plan) + 1 - l.engine.position
