use Rattle.std.proofs.Common.{◌≡◌, map, subst, sym, ◌∙◌}
use Rattle.std.specs.Arc.{arc_value}
use Rattle.scenarios.specs.Plan.{plan_of}
use Rattle.scenarios.specs.PlanView.{PlanView, plan_in}
use Rattle.checkpoints.specs.Cut.{IsCut}
use Rattle.check_runs.proofs.own_segments.made_again.Goals as goal

pub of_segments-requires : goal.of_segments-requires
of_segments-requires g c =
    let segments : map arc_value c.in_ok-segments.segments.items ≡ c.args.run.now.segments = c.in_ok-segments.ensures ∙ c.segments.ensures.value in
    let log = subst (λ l. IsCut (plan_of l c.args.run.now.scenario) c.args.run.now.segments) (sym c.plan.ensures.log) c.segments.ensures.sound in
    let cut : IsCut (plan_in c.plan.result.now) c.args.run.now.segments = subst (λ s. IsCut (plan_of c.plan.result.now.log s) c.args.run.now.segments) (sym c.plan.ensures.scenario) log in
    let copied = subst (λ (p : PlanView). IsCut (plan_in p) c.args.run.now.segments) (sym c.in_ok-copy.ensures) cut in
    subst (IsCut (plan_in c.in_ok-copy.field-0)) (sym segments) copied
