use Rattle.std.proofs.Common.{subst}
use Rattle.scenarios.specs.Plan.{plan_of}
use Rattle.checkpoints.specs.RunView.{RunView}
use Rattle.checkpoints.specs.Cut.{IsCut}
use Rattle.checkpoints.proofs.run.Run.segments.Goals as goal

pub returns-clause-sound : goal.returns-clause-sound
returns-clause-sound g c = subst (λ (r : RunView). IsCut (plan_of r.log r.scenario) r.segments) c.self.view_is c.self.invariant.0.cut
