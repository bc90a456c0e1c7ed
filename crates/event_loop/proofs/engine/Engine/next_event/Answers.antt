use Rattle.std.proofs.Common.{◌∙◌}
use Rattle.scenarios.specs.Plan.{Plan}
use Rattle.scenarios.specs.PlanView.{plan_in}
use Rattle.event_loop.proofs.EventLemmas.{next-submit, next-earlier}
use Rattle.event_loop.proofs.Rows.{next-is}
use Rattle.event_loop.proofs.engine.Engine.next_event.Goals as goal

pub returns-clause-going : goal.returns-clause-going
returns-clause-going g c = λ _.
    let e = c.self.invariant in
    let plan : Plan = plan_in c.self.inside.plan in
    let a = c.self.inside.position in
    rw (← c.self.view_is, c.earlier.ensures)
    (next-earlier plan a c.self.inside.cluster.state c.next.result c.next_end.result e.is_plan (e.state_is c.if-self.false)
    (next-submit plan a c.next.result e.is_plan (c.next.ensures ∙ next-is c.self.inside.upcoming a plan.jobs (e.upcoming_is c.if-self.false))) c.next_end.ensures.none.0 c.next_end.ensures.found c.next_end.ensures.least)
