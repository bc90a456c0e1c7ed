use Rattle.std.proofs.Common.{rules, arith, ◌≡◌, ◌∙◌, ap, map, subst, sym, IfErr}
use Rattle.std.specs.Prelude.{Err}
use Rattle.std.specs.Arc.{arc_value}
use Rattle.scenarios.specs.Plan.{plan_of}
use Rattle.scenarios.specs.PlanView.{plan_in}
use Rattle.checkpoints.specs.Spacing.{IsRefusal}
use Rattle.checkpoints.specs.declared.fault.RunFault.TheVariants as faults
use Rattle.rejoin.proofs.Turns.{rejoined-cut}
use Rattle.rejoin.proofs.Untouched.{all-reused}
use Rattle.rejoin.proofs.simulation.rerun.Goals as goal

pub of_reused-requires-clause-cut : goal.of_reused-requires-clause-cut
of_reused-requires-clause-cut g c =
    let change = c.in_ok-change.change in
    let patch = c.in_ok-patch.patch in
    let plan : change.is ≡ plan_in c.in_ok-copy.field-0 = c.in_ok-change.ensures.is ∙ ap plan_in (sym c.in_ok-copy.ensures) in
    rejoined-cut change.was change.is (plan_in c.in_ok-copy.field-0) change.old c.args.spacing (map arc_value patch.segments.items) patch.handled patch.reused c.in_ok-patch.ensures.rejoined plan

pub returns-clause-untouched : goal.returns-clause-untouched
returns-clause-untouched g c =
    let change = c.in_ok-change.change in
    let patch = c.in_ok-patch.patch in
    let plan = c.in_ok-change.ensures.is ∙ ap plan_in c.new-plan.ensures.view ∙ ap (plan_of (arc_value c.args.table)) c.scenario.ensures in
    all-reused change (plan_of c.args.run.now.log c.args.run.now.scenario) (plan_of (arc_value c.args.table) c.args.run.now.scenario) c.args.run.now.segments (map arc_value patch.segments.items) c.in_ok-again.again.segments c.args.spacing patch.handled patch.reused
    c.in_ok-change.ensures.sound c.in_ok-change.ensures.was plan c.in_ok-change.ensures.old c.in_ok-again.ensures.segments c.in_ok-patch.ensures.rejoined

pub returns-in_err-again-clause-fault : goal.returns-in_err-again-clause-fault
returns-in_err-again-clause-fault g c =
    let outcome : c.from_residual-in_err-again.result ≡ Err faults.Memory = search rules in
    let some = c.if-spacing-lt1.false in
    let limited = c.if-spacing-gt-MAX_SPACING.false in
    subst (λ r. IfErr r (λ f. IsRefusal c.args.spacing f)) (sym outcome) (record { some = omega (arith, some); limited = omega (arith, limited) })
