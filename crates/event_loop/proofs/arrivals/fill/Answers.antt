use Rattle.std.proofs.Common.{arith}
use Rattle.scenarios.specs.Plan.{Plan}
use Rattle.scenarios.specs.PlanView.{plan_in}
use Rattle.event_loop.proofs.ToCome.{non-falling}
use Rattle.event_loop.proofs.Rows.{taking-first, taking-more, taking-stop}
use Rattle.event_loop.proofs.arrivals.fill.Goals as goal

pub jobs-init : goal.jobs-init
jobs-init g c =
    let plan : Plan = plan_in c.args.plan.now in
    taking-first c.args.second c.args.row.now.items _ plan.jobs (non-falling plan.jobs c.from_second-upcoming.ensures.sound.rising) c.requires c.from_second-upcoming.ensures.jobs

pub returns-then-may_end-clause-upcoming : goal.returns-then-may_end-clause-upcoming
returns-then-may_end-clause-upcoming g c =
    let plan : Plan = plan_in c.args.plan.now in
    let later = (c.may_end.ensures.0 c.if-may_end.true).1 in
    let value = c.submit-submit.ensures.value in
    rw c.submit-submit.ensures.value
    (taking-stop c.args.second c.jobs.last c.jobs.row.items c.jobs.upcoming c.next.new.self plan.jobs c.in-Some.job c.jobs.invariant c.in-Some.ensures.steps (omega (arith, later, value)))

pub jobs-preserved : goal.jobs-preserved
jobs-preserved g c =
    let plan : Plan = plan_in c.args.plan.now in
    rw c.submit-submit.ensures.value
    (taking-more c.args.second c.jobs.last c.jobs.row.items c.push_back.new.self.items c.jobs.upcoming c.next.new.self plan.jobs c.in-Some.job c.jobs.invariant c.in-Some.ensures.steps c.in_ok-push_back.ensures.items)
