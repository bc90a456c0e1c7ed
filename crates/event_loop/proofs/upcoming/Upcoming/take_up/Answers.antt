use Rattle.std.proofs.Common.{◌∙◌, ap, sym}
use Rattle.std.proofs.lemmas.Bool.{false≢true}
use Rattle.scenarios.specs.Plan.{Plan}
use Rattle.scenarios.specs.PlanView.{plan_in}
use Rattle.event_loop.specs.Upcoming.{NextJobs}
use Rattle.event_loop.proofs.Rows.{row-none, behind-later}
use Rattle.event_loop.proofs.upcoming.Upcoming.take_up.Goals as goal

pub fill-requires : goal.fill-requires
fill-requires g c =
    let plan : Plan = plan_in c.args.plan.now in
    ap (λ (n : NextJobs). n.row) c.self.view_is
    ∙ row-none c.args.self.now c.args.second plan.jobs c.requires (sym (ap (λ (n : NextJobs). n.later) c.self.view_is) ∙ c.is_at.ensures.0 c.if-is_at.true)

pub returns-else-is_at-clause-later : goal.returns-else-is_at-clause-later
returns-else-is_at-clause-later g c =
    let plan : Plan = plan_in c.args.plan.now in
    behind-later c.args.self.now c.args.second plan.jobs c.requires (λ e. false≢true (sym c.if-is_at.false ∙ c.is_at.ensures.1 (ap (λ (n : NextJobs). n.later) c.self.view_is ∙ e)))
