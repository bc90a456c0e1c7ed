use Rattle.std.proofs.Common.{arith}
use Rattle.scenarios.specs.PlanView.{plan_in}
use Rattle.cluster_state.proofs.LookupLemmas.{can-run-behind}
use Rattle.cluster_state.proofs.lookup.can_run.Goals as goal

pub loop-r-preserved : goal.loop-r-preserved
loop-r-preserved g c =
    let fits = c.if-left-size.false in
    let one = c.size.ensures.value in
    let same = c.size-left.ensures.value in
    can-run-behind (plan_in c.args.plan.now).jobs c.args.running c.loop-r.r-iterator c.next.new.self c.loop-r.left c.args.plan.now.scenario.procs c.size-left.result c.in-Some.r.now c.in-Some-job.job c.in-Some.ensures.steps c.in-Some-job.ensures.job same (omega (arith, fits, one, same)) c.loop-r.invariant
