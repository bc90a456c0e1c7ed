use Rattle.std.proofs.Common.{rules, ◌≡◌, map, get_or, take, sym, ◌∙◌, subst, refl}
use Rattle.std.proofs.lemmas.Bool.{false≢true}
use Rattle.job_table.specs.Edit.{edit_of, log_after}
use Rattle.scenarios.specs.Plan.{Plan}
use Rattle.scenarios.specs.PlanView.{PlanView, plan_in}
use Rattle.rejoin.specs.Named.{named}
use Rattle.rejoin.specs.Tested.{AreThose}
use Rattle.rejoin.specs.Touched.{IsTouched}
use Rattle.rejoin.proofs.Finding.{increasing-rises, increasing-single, those-distinct}
use Rattle.rejoin.proofs.Collecting.{Collected, touched-more, untouched-more, touched-all}
use Rattle.rejoin.proofs.touched.touched_numbers.Goals as goal
use Rattle.rejoin.proofs.touched.touched_numbers.Goals.{then-is_touched+in_ok-push, else-is_touched}

pub loop-edit-preserved : goal.loop-edit-preserved
loop-edit-preserved g c =
    let p : Plan = plan_in c.args.old_plan.now in
    let q : Plan = plan_in c.args.new_plan.now in
    let is : c.number_of-number.result ≡ named (edit_of (get_or c.args.edits.now c.loop-edit.edit-index c.edit-item.result)) = search rules in
    elim c.if-is_touched.branch [
      | then-is_touched+in_ok-push w ↦ touched-more edit_of p q c.args.edits.now c.loop-edit.edit-index c.edit-item.result c.number_of-number.result c.loop-edit.numbers.items _ c.loop-edit-test.true is (c.is_touched.ensures.0 w.if-is_touched.true) (search rules) c.loop-edit.invariant
      | else-is_touched w ↦ untouched-more edit_of p q c.args.edits.now c.loop-edit.edit-index c.edit-item.result c.number_of-number.result c.loop-edit.numbers.items _ c.loop-edit-test.true is (λ t. false≢true (sym w.if-is_touched.false ∙ c.is_touched.ensures.1 t)) (search rules) c.loop-edit.invariant
    ]

pub returns-clause-those : goal.returns-clause-those
returns-clause-those g c =
    let old : PlanView = c.args.old_plan.now in
    let numbers = c.loop-edit.numbers.items in
    those-distinct (IsTouched (plan_in old) (plan_in c.args.new_plan.now)) numbers _ c.distinct.ensures.same
    (subst (λ (v : PlanView). AreThose (IsTouched (plan_in old) (plan_in v)) numbers) (sym c.requires.edited)
    (touched-all edit_of old.log (log_after old.log (map edit_of c.args.edits.now)) old.scenario c.args.edits.now c.loop-edit.edit-index numbers c.loop-edit-test.false c.requires.table c.requires.accepted refl
    (subst (λ (v : PlanView). Collected (plan_in old) (plan_in v) (map edit_of (take c.loop-edit.edit-index c.args.edits.now)) numbers) c.requires.edited c.loop-edit.invariant)))

pub returns-clause-rising : goal.returns-clause-rising
returns-clause-rising g c = increasing-rises _ c.distinct.ensures.rising

pub returns-clause-single : goal.returns-clause-single
returns-clause-single g c = increasing-single _ c.distinct.ensures.rising
