use Rattle.std.proofs.Common.{rules, ◌≡◌, ◌+◌, ◌-◌, ◌≤◌, ◌^◌, ◌↔◌, min, List, subst}
use Rattle.std.proofs.lemmas.List.{take_all}
use Rattle.easy_rule.specs.declared.start.Start.{Start}
use Rattle.scenarios.specs.Job.{EffectiveJob}
use Rattle.scenarios.specs.PlanView.{plan_in}
use Rattle.rejoin.specs.Started.{starts_of, EachHasEnded}
use Rattle.rejoin.proofs.Following.{none-more, count-more, tells-more}
use Rattle.rejoin.proofs.own_starts.note_touched.Goals as goal

pub loop-start-init : goal.loop-start-init
loop-start-init g c =
    let none = none-more c.args.change.now.touched (plan_in c.args.plan.now).jobs c.args.started.now c.args.ended.now (search rules) in
    record { started = none.0; ended = λ early t. none.1 t }

pub loop-start-preserved : goal.loop-start-preserved
loop-start-preserved g c =
    let ns = c.args.change.now.touched in
    let jobs : List EffectiveJob = (plan_in c.args.plan.now).jobs in
    record {
      started = count-more ns c.args.new.now c.loop-start.start-index _ c.loop-start-test.true c.args.started.now c.loop-start.started _ c.loop-start.invariant.started c.note_own.ensures.started;
      ended = λ early t. tells-more ns c.args.new.now c.loop-start.start-index _ c.loop-start-test.true jobs c.args.ended.now c.loop-start.ended _ t early (c.loop-start.invariant.ended early t) (λ l. c.note_own.ensures.ended l t);
    }

pub returns-clause-started : goal.returns-clause-started
returns-clause-started g c =
    subst (λ (ys : List Start). c.loop-start.started ≡ min (c.args.started.now + starts_of c.args.change.now.touched ys) (2 ^ 64 - 1)) (take_all c.loop-start.start-index c.args.new.now c.loop-start-test.false) c.loop-start.invariant.started

pub returns-clause-ended : goal.returns-clause-ended
returns-clause-ended g c early t =
    subst (λ (ys : List Start). (c.loop-start.ended ≤ t) ↔ ((c.args.ended.now ≤ t) × EachHasEnded c.args.change.now.touched (plan_in c.args.plan.now).jobs ys t)) (take_all c.loop-start.start-index c.args.new.now c.loop-start-test.false) (c.loop-start.invariant.ended early t)
