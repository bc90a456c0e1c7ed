use Rattle.scenarios.specs.PlanView.{plan_in}
use Rattle.cluster_state.proofs.LookupLemmas.{have-behind}
use Rattle.cluster_state.proofs.lookup.have_jobs.Goals as goal

pub loop-number-preserved : goal.loop-number-preserved
loop-number-preserved g c =
    have-behind (plan_in c.args.plan.now).jobs c.args.numbers c.loop-number.number-iterator c.next.new.self c.in-Some.number.now c.job.result c.in-Some.ensures.steps c.job.ensures.job (rw c.if-is_none.false at c.is_none.ensures) c.loop-number.invariant
