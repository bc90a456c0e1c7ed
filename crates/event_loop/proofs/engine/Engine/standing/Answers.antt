use Rattle.std.proofs.Common.{ap, arith, length}
use Rattle.scenarios.specs.Plan.{Plan}
use Rattle.scenarios.specs.PlanView.{plan_in}
use Rattle.cluster_state.specs.State.{State}
use Rattle.event_loop.proofs.Few.{few-running, few-waiting}
use Rattle.event_loop.proofs.engine.Engine.standing.Goals as goal

pub overflow_add-result : goal.overflow_add-result
overflow_add-result g c =
    let s : State = c.self.inside.cluster.state in
    let plan : Plan = plan_in c.self.inside.plan in
    let few = few-running s c.running_count.ensures.sound in
    let limited = c.running_count.ensures.sound.limited in
    let waits = few-waiting plan c.self.inside.position c.self.invariant.is_plan in
    let jobs = c.self.invariant.is_plan.few in
    let same = ap (λ (z : State). length z.waiting) (c.self.invariant.state_is c.if-self.false) in
    let counted = c.waiting_count.ensures.count in
    let ran = c.running_count.ensures.count in
    omega (arith, few, limited, waits, jobs, same, counted, ran)

pub returns-clause-going : goal.returns-clause-going
returns-clause-going g c = λ _.
    let same = c.self.invariant.state_is c.if-self.false in
    let waits = ap (λ (z : State). length z.waiting) same in
    let runs = ap (λ (z : State). length z.running) same in
    let counted = c.waiting_count.ensures.count in
    let ran = c.running_count.ensures.count in
    rw (← c.self.view_is) (omega (arith, waits, runs, counted, ran))
