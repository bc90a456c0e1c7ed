use Rattle.std.proofs.Common.{ap, sym, arith, refl, map, true, subst}
use Rattle.scenarios.specs.Plan.{Plan}
use Rattle.scenarios.specs.PlanView.{plan_in}
use Rattle.easy_rule.specs.Pass.{start_at}
use Rattle.easy_rule.specs.Simulation.{IsEvent}
use Rattle.event_loop.specs.Events.{Progress}
use Rattle.event_loop.proofs.EventLemmas.{seen}
use Rattle.event_loop.proofs.RunOn.{run-on-step, further-failed, last-step, last-same}
use Rattle.event_loop.proofs.engine.Engine.work_until.Goals as goal

pub returns-in_default-add_starts-clause-fault : goal.returns-in_default-add_starts-clause-fault
returns-in_default-add_starts-clause-fault g c =
    let old : Progress = c.args.self.now in
    let now : Progress = c.events.self in
    let run = c.events.invariant.run in
    let next = c.in-Some.ensures.some.0 in
    let step = run-on-step old now c.work.new.self c.events.all.items (map (start_at c.in-Some.second) c.work.new.started.items) c.in-Some.second run next c.in_ok-work.ensures.started.starts c.in_ok-work.ensures.ok in
    let e = ap (λ (p : Progress). let v : Progress = record p { failed = true } in v) c.self-in-Some.view_is in
    let new : Progress = seen (plan_in c.self-in-Some.inside.plan) c.self-in-Some.inside.position c.self-in-Some.inside.handled true in (
      run.was,
      refl,
      further-failed old c.work.new.self new step.further e,
      last-same old c.work.new.self new (last-step old now c.work.new.self c.events.all.items c.in-Some.second run next c.in_ok-work.ensures.ok) (ap (λ (p : Progress). p.position) e),
    )

pub events-preserved : goal.events-preserved
events-preserved g c =
    let old : Progress = c.args.self.now in
    let now : Progress = c.events.self in
    let run = c.events.invariant.run in
    let next = c.in-Some.ensures.some.0 in
    let step = run-on-step old now c.work.new.self c.events.all.items (map (start_at c.in-Some.second) c.work.new.started.items) c.in-Some.second run next c.in_ok-work.ensures.started.starts c.in_ok-work.ensures.ok in
    record {
      run = rw (c.in-Ok.ensures.ok, c.as_slice.ensures.value) step;
      last = last-step old now c.work.new.self c.events.all.items c.in-Some.second run next c.in_ok-work.ensures.ok;
      within = let l = c.in-Some.ensures.some.1 in let p = ap (λ (p : Progress). p.position) c.in_ok-work.ensures.ok in omega (arith, l, p);
    }

pub returns-clause-quiet : goal.returns-clause-quiet
returns-clause-quiet g c = λ u l m v. c.in_default.ensures.none u l m (subst (λ (p : Plan). IsEvent p u) (sym c.events.invariant.run.further.plan) v)
