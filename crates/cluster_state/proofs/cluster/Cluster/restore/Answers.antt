use Rattle.std.proofs.Common.{◌∙◌, sym, List, ℕ, subst}
use Rattle.scenarios.specs.Plan.{Plan}
use Rattle.scenarios.specs.PlanView.{plan_in}
use Rattle.cluster_state.specs.State.{RisesByNumber}
use Rattle.cluster_state.specs.Snapshot.{Numbers}
use Rattle.cluster_state.proofs.RiseLemmas.{jobs-rise}
use Rattle.cluster_state.proofs.LookupLemmas.{IsRestoring, sound-running, absent-next, restoring-none}
use Rattle.cluster_state.proofs.cluster.Cluster.restore.Goals as goal

pub with_running-requires-clause-rises : goal.with_running-requires-clause-rises
with_running-requires-clause-rises g c =
    let numbers = rw c.running.ensures.numbers at c.in_ok-running.ensures.jobs in
    subst RisesByNumber (sym (c.deref.ensures.value ∙ numbers)) (jobs-rise (plan_in c.args.plan.now).jobs c.args.snapshot.now.running c.running.ensures.sound.rising)

pub with_running-requires-clause-sound : goal.with_running-requires-clause-sound
with_running-requires-clause-sound g c =
    let p : Numbers = c.args.snapshot.now in
    let plan : Plan = plan_in c.args.plan.now in
    let small = rw c.scenario-scenario.ensures.scenario at c.procs.ensures.scenario.procs_fit in
    rw (c.procs.ensures.value, c.order.ensures, c.deref.ensures.value, c.scenario-scenario.ensures.scenario)
    (sound-running p plan c.in_ok-running.running.items c.running.ensures.sound c.requires small (rw c.running.ensures.numbers at c.in_ok-running.ensures.jobs) c.in_ok-running.ensures.limits)

pub arrive-requires-clause-absent : goal.arrive-requires-clause-absent
arrive-requires-clause-absent g c =
    let p : Numbers = c.args.snapshot.now in
    let plan : Plan = plan_in c.args.plan.now in
    let left = subst (λ (ns : List ℕ). IsRestoring p plan ns c.loop-number.cluster.state) c.in-Some.ensures.steps c.loop-number.invariant in
    absent-next p plan c.in-Some.number.now c.next.new.self c.loop-number.cluster.state c.in-Some-job.job c.running.ensures.sound left
    c.in-Some-job.ensures.job

pub loop-number-preserved : goal.loop-number-preserved
loop-number-preserved g c =
    let p : Numbers = c.args.snapshot.now in
    let plan : Plan = plan_in c.args.plan.now in
    let left = subst (λ (ns : List ℕ). IsRestoring p plan ns c.loop-number.cluster.state) c.in-Some.ensures.steps c.loop-number.invariant in
    restoring-none p plan c.in-Some.number.now c.next.new.self c.loop-number.cluster.state left
    c.in_default.ensures.job
