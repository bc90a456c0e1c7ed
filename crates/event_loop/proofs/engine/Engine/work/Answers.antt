use Rattle.std.proofs.Common.{◌≡◌, ◌∙◌, ap, sym, arith, refl, length, subst, false}
use Rattle.std.proofs.lemmas.Bool.{true≢false}
use Rattle.scenarios.specs.Plan.{Plan}
use Rattle.scenarios.specs.PlanView.{plan_in}
use Rattle.cluster_state.specs.State.{State}
use Rattle.easy_rule.specs.Rule.{state_after}
use Rattle.easy_rule.specs.Simulation.{joined, submitted}
use Rattle.timeline.proofs.Lemmas.{second-is, before-more}
use Rattle.event_loop.specs.Events.{Progress}
use Rattle.event_loop.specs.Second.{IsDecided, IsDue}
use Rattle.event_loop.specs.Stepped.{StartIn}
use Rattle.event_loop.proofs.Kept.{start-in}
use Rattle.event_loop.proofs.EventLemmas.{midway-at, ready-at, sound-ready, last_shadow-front}
use Rattle.event_loop.proofs.engine.Engine.work.Goals as goal

pub arrive_and_decide-requires-clause-now : goal.arrive_and_decide-requires-clause-now
arrive_and_decide-requires-clause-now g c =
    let plan : Plan = plan_in c.self.inside.plan in
    let r = ready-at c.args.self.now plan c.self.inside.cluster.state c.self.inside.upcoming c.self.inside.last_shadow c.self.inside.position c.self.inside.handled c.args.second c.self.inside.failed c.self.view_is c.self.invariant c.requires.going c.requires.next in
    let l = r.small in
    omega (arith, l)

pub arrive_and_decide-requires-clause-due : goal.arrive_and_decide-requires-clause-due
arrive_and_decide-requires-clause-due g c =
    let plan : Plan = plan_in c.self.inside.plan in
    let t = c.args.second in
    let ended : State = c.finish_until.new.self.state in
    let r = ready-at c.args.self.now plan c.self.inside.cluster.state c.self.inside.upcoming c.self.inside.last_shadow c.self.inside.position c.self.inside.handled t c.self.inside.failed c.self.view_is c.self.invariant c.requires.going c.requires.next in
    let l = r.small in
    let ready-is = second-is plan c.self.inside.cluster.state ended (joined ended (submitted plan t)) t (omega (arith, l)) c.self.invariant.is_plan r.is c.finish_until.ensures.state refl in
    let going : c.self.inside.failed ≡ false = ap (λ (p : Progress). p.failed) c.self.view_is ∙ c.requires.going in
    let due : IsDue plan t ended c.self.inside.upcoming c.standing_at-last_shadow.result
    = record {
      next = r.next;
      sound = sound-ready plan c.self.inside.cluster.state ended t c.self.invariant.is_plan r.small r.is c.finish_until.ensures.state;
      settled = last_shadow-front plan c.self.inside.cluster.state (joined ended (submitted plan t)) t (length ended.waiting) c.self.inside.last_shadow c.standing_at-last_shadow.result r.is ready-is (ap (λ (z : State). length z.waiting) c.finish_until.ensures.state) (c.self.invariant.last_shadow_is going) c.standing_at-last_shadow.ensures.last_shadow c.standing_at-last_shadow.ensures.stands;
    } in
    rw c.view.ensures.same due

pub invariant_of-self : goal.invariant_of-self
invariant_of-self g c = record {
  is_plan = c.self.invariant.is_plan;
  counted = c.self.invariant.counted;
  state_is = λ e. absurd (true≢false e);
  upcoming_is = λ e. absurd (true≢false e);
  last_shadow_is = λ e. absurd (true≢false e);
  failed_is = λ _. midway-at c.args.self.now (plan_in c.self.inside.plan) c.self.inside.cluster.state c.finish_until.new.self.state c.arrive_and_decide.new.cluster.state c.self.inside.upcoming c.self.inside.last_shadow c.self.inside.position c.self.inside.handled c.args.second c.self.inside.failed
      c.self.view_is c.self.invariant c.requires.going c.requires.next c.finish_until.ensures.state c.in_err-left.ensures.running;
}

pub overflow_add-self : goal.overflow_add-self
overflow_add-self g c =
    let plan : Plan = plan_in c.self.inside.plan in
    let r = ready-at c.args.self.now plan c.self.inside.cluster.state c.self.inside.upcoming c.self.inside.last_shadow c.self.inside.position c.self.inside.handled c.args.second c.self.inside.failed c.self.view_is c.self.invariant c.requires.going c.requires.next in
    let l = r.small in
    omega (arith, l)

pub overflow_add-self-2 : goal.overflow_add-self-2
overflow_add-self-2 g c =
    let plan : Plan = plan_in c.self.inside.plan in
    let r = ready-at c.args.self.now plan c.self.inside.cluster.state c.self.inside.upcoming c.self.inside.last_shadow c.self.inside.position c.self.inside.handled c.args.second c.self.inside.failed c.self.view_is c.self.invariant c.requires.going c.requires.next in
    let l = r.small in
    let f = r.first in
    let k = c.self.invariant.counted in
    omega (arith, l, f, k)

pub invariant_of-self-2 : goal.invariant_of-self-2
invariant_of-self-2 g c =
    let plan : Plan = plan_in c.self.inside.plan in
    let t = c.args.second in
    let ended : State = c.finish_until.new.self.state in
    let r = ready-at c.args.self.now plan c.self.inside.cluster.state c.self.inside.upcoming c.self.inside.last_shadow c.self.inside.position c.self.inside.handled t c.self.inside.failed c.self.view_is c.self.invariant c.requires.going c.requires.next in
    let l = r.small in
    let f = r.first in
    let k = c.self.invariant.counted in
    let ready-is = second-is plan c.self.inside.cluster.state ended (joined ended (submitted plan t)) t (omega (arith, l)) c.self.invariant.is_plan r.is c.finish_until.ensures.state refl in
    let decided : IsDecided (joined ended (submitted plan t)) t c.arrive_and_decide.new.started.items c.arrive_and_decide.new.cluster.state = rw c.view.ensures.same at c.in_ok-left.ensures.decided in
    record {
      is_plan = c.self.invariant.is_plan;
      counted = omega (arith, f, k);
      state_is = λ _. decided.state ∙ ap (λ (s : State). state_after s t) ready-is ∙ sym (before-more plan t);
      upcoming_is = λ _. rw c.view.ensures.same at c.in_ok-left.ensures.upcoming;
      last_shadow_is = λ _. c.in_ok-left.ensures.shadow;
      failed_is = λ e. absurd (true≢false (sym e));
    }

pub returns-clause-started : goal.returns-clause-started
returns-clause-started g c =
    let plan : Plan = plan_in c.self.inside.plan in
    let t = c.args.second in
    let ended : State = c.finish_until.new.self.state in
    let r = ready-at c.args.self.now plan c.self.inside.cluster.state c.self.inside.upcoming c.self.inside.last_shadow c.self.inside.position c.self.inside.handled t c.self.inside.failed c.self.view_is c.self.invariant c.requires.going c.requires.next in
    let l = r.small in
    let ready-is = second-is plan c.self.inside.cluster.state ended (joined ended (submitted plan t)) t (omega (arith, l)) c.self.invariant.is_plan r.is c.finish_until.ensures.state refl in
    let decided : IsDecided (joined ended (submitted plan t)) t c.arrive_and_decide.new.started.items c.arrive_and_decide.new.cluster.state = rw c.view.ensures.same at c.in_ok-left.ensures.decided in
    subst (λ (p : Progress). StartIn p.plan t c.arrive_and_decide.new.started.items) c.self.view_is
    (start-in plan (joined ended (submitted plan t)) _ t c.arrive_and_decide.new.started.items c.self.invariant.is_plan ready-is decided.started decided.starts)
