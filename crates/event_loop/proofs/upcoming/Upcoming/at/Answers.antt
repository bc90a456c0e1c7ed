use Rattle.scenarios.specs.Plan.{Plan}
use Rattle.scenarios.specs.PlanView.{plan_in}
use Rattle.event_loop.proofs.ToCome.{non-falling}
use Rattle.event_loop.proofs.Rows.{upcoming-first}
use Rattle.event_loop.proofs.upcoming.Upcoming.at.Goals as goal

pub returns-clause-upcoming : goal.returns-clause-upcoming
returns-clause-upcoming g c =
    let plan : Plan = plan_in c.args.plan.now in
    rw c.new.ensures.items (upcoming-first c.args.second plan.jobs c.next_submit.result (non-falling plan.jobs c.next_submit.ensures.plan.rising) c.next_submit.ensures.next)
