use Rattle.std.proofs.Common.{map, subst, sym}
use Rattle.std.specs.Arc.{arc_value}
use Rattle.scenarios.specs.PlanView.{plan_in}
use Rattle.checkpoints.specs.Cut.{IsShortCut}
use Rattle.checkpoints.proofs.Chains.{short-cut}
use Rattle.checkpoints.proofs.simulation.simulate.Goals as goal

pub of_segments-requires : goal.of_segments-requires
of_segments-requires g c = short-cut (plan_in c.args.plan) c.args.spacing (map arc_value c.in_ok-segments.segments.items) c.in_ok-segments.ensures.cut

pub returns-clause-cut : goal.returns-clause-cut
returns-clause-cut g c = subst (IsShortCut (plan_in c.args.plan) c.args.spacing) (sym c.in_ok-run.ensures.segments) c.in_ok-segments.ensures.cut
