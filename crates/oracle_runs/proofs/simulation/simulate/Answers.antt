use Rattle.std.proofs.Common.{◌≡◌, ◌+◌, ◌<◌, ◌∙◌, refl, ap, sym, arith}
use Rattle.scenarios.specs.Plan.{Plan}
use Rattle.cluster_state.specs.State.{State}
use Rattle.easy_rule.specs.Rule.{state_after}
use Rattle.easy_rule.specs.Simulation.{before, starts_before, last_submit, bound}
use Rattle.timeline.proofs.Lemmas.{sound-arrivals, second-is, procs-is, before-more, starts_before-more, short-plan, all-started, all-start-early}
use Rattle.oracle_runs.proofs.Ending.{ended-until-is}
use Rattle.oracle_runs.proofs.simulation.simulate.Goals as goal

pub bound-t-end-requires : goal.bound-t-end-requires
bound-t-end-requires g c = rw c.jobs-jobs.ensures.jobs c.jobs-jobs.ensures.plan.few

pub overflow_add-t-end : goal.overflow_add-t-end
overflow_add-t-end g c =
    let s = short-plan c.args.plan.now c.jobs-jobs.ensures.plan in
    let ends = c.bound-t-end.ensures c.args.plan.now (sym c.jobs-jobs.ensures.jobs) in
    omega (arith, s, ends)

pub loop-t-init : goal.loop-t-init
unfolding before starts_before
loop-t-init g c =
    record { state = rw (c.new-state.ensures, c.scenario.ensures.procs, c.scenario.ensures.order) refl; starts = c.new-starts.ensures.items }

pub returns-then-is_idle : goal.returns-then-is_idle
returns-then-is_idle g c =
    let ends = c.bound-t-end.ensures c.args.plan.now (sym c.jobs-jobs.ensures.jobs) in
    let idle = c.is_idle.ensures.0 c.if-is_idle.true in
    let late : last_submit c.args.plan.now.jobs < c.loop-t.t = rw c.jobs-jobs.ensures.jobs at (rw c.last_submit-last.ensures.value at c.if-t-last.true) in
    let all = c.loop-t.invariant.starts ∙ all-started c.args.plan.now c.loop-t.t (bound c.args.plan.now + 1) c.loop-t.state c.loop-t.invariant.state late (omega (arith, ends)) idle.0 idle.1 in
    record { starts = all; within = all-start-early c.args.plan.now c.loop-t.starts.items c.jobs-jobs.ensures.plan all }

pub arrive_at-requires-clause-sound : goal.arrive_at-requires-clause-sound
arrive_at-requires-clause-sound g c =
    let s = short-plan c.args.plan.now c.jobs-jobs.ensures.plan in
    let ends = c.bound-t-end.ensures c.args.plan.now (sym c.jobs-jobs.ensures.jobs) in
    let left = ended-until-is c.args.plan.now c.loop-t.state c.end_at.new.self c.loop-t.t (omega (arith, s, ends)) c.jobs-jobs.ensures.plan c.loop-t.invariant.state c.end_at.ensures in
    rw c.jobs-jobs.ensures.jobs (λ k. sound-arrivals c.args.plan.now c.loop-t.state c.end_at.new.self c.loop-t.t k (omega (arith, s, ends)) c.jobs-jobs.ensures.plan c.loop-t.invariant.state left)

pub arrive_at-requires-clause-sizes : goal.arrive_at-requires-clause-sizes
arrive_at-requires-clause-sizes g c =
    let s = short-plan c.args.plan.now c.jobs-jobs.ensures.plan in
    let ends = c.bound-t-end.ensures c.args.plan.now (sym c.jobs-jobs.ensures.jobs) in
    let left = ended-until-is c.args.plan.now c.loop-t.state c.end_at.new.self c.loop-t.t (omega (arith, s, ends)) c.jobs-jobs.ensures.plan c.loop-t.invariant.state c.end_at.ensures in
    rw (c.jobs-jobs.ensures.jobs, procs-is c.args.plan.now c.loop-t.state c.end_at.new.self c.loop-t.t (omega (arith, s, ends)) c.jobs-jobs.ensures.plan c.loop-t.invariant.state left) c.jobs-jobs.ensures.plan.sizes

pub decide-requires : goal.decide-requires
decide-requires g c =
    let s = short-plan c.args.plan.now c.jobs-jobs.ensures.plan in
    let ends = c.bound-t-end.ensures c.args.plan.now (sym c.jobs-jobs.ensures.jobs) in
    omega (arith, s, ends)

pub loop-t-preserved : goal.loop-t-preserved
loop-t-preserved g c =
    let s = short-plan c.args.plan.now c.jobs-jobs.ensures.plan in
    let ends = c.bound-t-end.ensures c.args.plan.now (sym c.jobs-jobs.ensures.jobs) in
    let left = ended-until-is c.args.plan.now c.loop-t.state c.end_at.new.self c.loop-t.t (omega (arith, s, ends)) c.jobs-jobs.ensures.plan c.loop-t.invariant.state c.end_at.ensures in
    let plan : Plan = c.args.plan.now in
    let t = c.loop-t.t in
    let arrived = rw c.jobs-jobs.ensures.jobs at c.in_ok-arrive_at.ensures in
    let ready-is = second-is plan c.loop-t.state c.end_at.new.self c.arrive_at.new.state t (omega (arith, s, ends)) c.jobs-jobs.ensures.plan c.loop-t.invariant.state left arrived in
    record {
      state = c.in_ok-now.ensures.state ∙ ap (λ (s : State). state_after s t) ready-is ∙ sym (before-more plan t);
      starts = c.in_ok-extend_from_slice.ensures.items ∙ rw (c.as_slice.ensures.value, c.in_ok-now.ensures.starts, c.loop-t.invariant.starts, ready-is) (sym (starts_before-more plan t));
    }

pub returns : goal.returns
returns g c =
    let ends = c.bound-t-end.ensures c.args.plan.now (sym c.jobs-jobs.ensures.jobs) in
    let end : c.loop-t.t ≡ bound c.args.plan.now + 1 = omega (arith, ends) in
    let all = c.loop-t.invariant.starts ∙ ap (starts_before c.args.plan.now) end in
    record { starts = all; within = all-start-early c.args.plan.now c.loop-t.starts.items c.jobs-jobs.ensures.plan all }
