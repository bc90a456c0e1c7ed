use Rattle.std.proofs.Common.{sym, ap, subst, ◌∙◌}
use Rattle.scenarios.specs.Plan.{Plan}
use Rattle.scenarios.specs.PlanView.{PlanView, plan_in}
use Rattle.checkpoints.specs.Cut.{IsShortCut}
use Rattle.checkpoints.specs.Pieces.{all_in}
use Rattle.checkpoints.proofs.Chains.{short-cut}
use Rattle.checkpoints.proofs.simulation.segments_of.Goals as goal

pub finish-requires : goal.finish-requires
finish-requires g c =
    let plan : Plan = plan_in c.args.plan.now in
    let cut = short-cut plan c.args.spacing (all_in plan c.in_ok-segments.segments) c.in_ok-segments.ensures.cut in
    rw c.view-view.ensures.same (cut.0, cut.1)

pub returns : goal.returns
returns g c = record {
  cut =
      subst (IsShortCut (plan_in c.args.plan.now) c.args.spacing)
      (sym (c.in_ok-done.ensures ∙ ap (λ (v : PlanView). all_in (plan_in v) c.in_ok-segments.segments) c.view-view.ensures.same)) c.in_ok-segments.ensures.cut;
}
