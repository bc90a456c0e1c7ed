use Rattle.std.proofs.Common.{◌∙◌, sym, arith}
use Rattle.scenarios.specs.PlanView.{plan_in}
use Rattle.std.proofs.lemmas.Bool.{true≢false}
use Rattle.event_loop.proofs.Kept.{before-fits}
use Rattle.event_loop.proofs.engine.Engine.resume.Goals as goal

pub restore-requires : goal.restore-requires
restore-requires g c =
    rw c.view-2.ensures.same (before-fits (plan_in c.args.plan) c.args.second c.args.snapshot.now c.view.ensures.sound c.requires).0

pub invariant_of-result : goal.invariant_of-result
invariant_of-result g c = record {
  is_plan = c.view.ensures.sound;
  counted = omega arith;
  state_is = λ _. (rw c.view-2.ensures.same at c.in_ok-cluster.ensures) ∙ (before-fits (plan_in c.args.plan) c.args.second c.args.snapshot.now c.view.ensures.sound c.requires).1;
  upcoming_is = λ _. rw c.view.ensures.same at c.at-upcoming.ensures.upcoming;
  last_shadow_is = λ _. tt;
  failed_is = λ e. absurd (true≢false (sym e));
}
