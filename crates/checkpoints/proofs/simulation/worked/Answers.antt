use Rattle.std.proofs.Common.{◌∙◌, ap, sym, subst}
use Rattle.scenarios.specs.Plan.{Plan}
use Rattle.scenarios.specs.PlanView.{PlanView, plan_in}
use Rattle.checkpoints.specs.Cut.{IsShortCut}
use Rattle.checkpoints.specs.Pieces.{all_in}
use Rattle.checkpoints.proofs.Worked.{cutting-first, cut-done}
use Rattle.checkpoints.proofs.simulation.worked.Goals as goal

pub segments-init : goal.segments-init
segments-init g c =
    let plan : Plan = plan_in c.view-view.result in
    cutting-first plan (plan_in c.in_ok-copy.field-0) c.args.spacing c.new-engine.result _ c.new-engine.ensures
    (ap plan_in (c.in_ok-copy.ensures ∙ sym c.view-view.ensures.same))
    (ap (all_in plan) c.new-segments.ensures)

pub add_next-requires-clause-cut : goal.add_next-requires-clause-cut
add_next-requires-clause-cut g c = c.segments.invariant

pub add_next-requires-clause-coming : goal.add_next-requires-clause-coming
add_next-requires-clause-coming g c = c.comes_before.ensures.comes.0 c.segments-test.true

pub segments-preserved : goal.segments-preserved
segments-preserved g c = c.in_ok-add_next.ensures.cut

pub segments-smaller : goal.segments-smaller
segments-smaller g c = c.in_ok-add_next.ensures.nearer

pub returns : goal.returns
returns g c = record {
  cut =
      let done = cut-done (plan_in c.view-view.result) c.args.spacing c.segments.engine (all_in (plan_in c.view-view.result) c.segments.segments) c.segments.invariant (c.comes_before.ensures.none c.segments-test.false) in
      subst (λ (v : PlanView). IsShortCut (plan_in v) c.args.spacing (all_in (plan_in v) c.segments.segments)) c.view-view.ensures.same done;
}
