use Rattle.std.proofs.Common.{◌∙◌, ap, cond, nat_lt, ℕ}
use Rattle.std.proofs.lemmas.List.Sorted.{sum_by-IsPermutation}
use Rattle.std.specs.List.{flat_map}
use Rattle.std.proofs.lemmas.List.{take_all}
use Rattle.scenarios.specs.Plan.{Plan}
use Rattle.scenarios.specs.PlanView.{plan_in}
use Rattle.rejoin.specs.Named.{submits_of}
use Rattle.rejoin.specs.Touched.{IsTouchedSubmit}
use Rattle.rejoin.specs.Started.{count_before}
use Rattle.rejoin.proofs.Finding.{those-permuted}
use Rattle.rejoin.proofs.Collecting.{submits-all, submits-count}
use Rattle.rejoin.proofs.touched.touched_submits.Goals as goal

pub returns-clause-those : goal.returns-clause-those
returns-clause-those g c =
    let p : Plan = plan_in c.args.old_plan.now in
    let q : Plan = plan_in c.args.new_plan.now in
    those-permuted (IsTouchedSubmit p q) c.loop-number.submits.items _ c.rising.ensures.same
    (submits-all p q c.args.numbers.now c.loop-number.submits.items c.requires (c.loop-number.invariant ∙ ap (flat_map (submits_of p q)) (take_all c.loop-number.number-index c.args.numbers.now c.loop-number-test.false)))

pub returns-clause-counts : goal.returns-clause-counts
returns-clause-counts g c t =
    let p : Plan = plan_in c.args.old_plan.now in
    let q : Plan = plan_in c.args.new_plan.now in
    sum_by-IsPermutation (λ (s : ℕ). cond {A = ℕ} (nat_lt s t) 1 0) c.loop-number.submits.items _ c.rising.ensures.same
    ∙ ap (count_before t) (c.loop-number.invariant ∙ ap (flat_map (submits_of p q)) (take_all c.loop-number.number-index c.args.numbers.now c.loop-number-test.false)) ∙ submits-count p q c.args.numbers.now t
