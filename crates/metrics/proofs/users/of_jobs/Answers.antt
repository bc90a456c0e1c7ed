use Rattle.std.proofs.Common.{◌≡◌, cond, List, map, ap, sym, subst, arith, ◌∙◌, rules, w64}
use mir.Val.{SFits}
use denote.Ref.{Bor}
use Rattle.std.specs.Ordering.{int_eq}
use Rattle.std.specs.List.Sorted.{IsPermutation}
use Rattle.std.proofs.lemmas.Int.{to_z-of_z}
use Rattle.std.proofs.lemmas.List.{take_all, length-map}
use Rattle.scenarios.specs.declared.placed.Placed.{Placed}
use Rattle.metrics.specs.declared.users.UserSums.{UserSums}
use Rattle.metrics.specs.Part.{AreJobs}
use Rattle.metrics.specs.Users.{plus, no_sums, alone, sums_of, user_total, CanAdd}
use Rattle.metrics.proofs.Tallies.{sums_more, sums_more_fit}
use Rattle.metrics.proofs.UserLists.{no_users, jobs-moved, lent_is, lent_placed, sums_of-moved}
use Rattle.metrics.proofs.users.of_jobs.Goals as goal

abbrev now : Bor Placed → Placed
now j = j.now

same_jobs : (ps : List Placed) (js ls : List (Bor Placed)) → IsPermutation ps (map now js) → ls ≡ js → IsPermutation ps (map now ls)
same_jobs ps js ls h e = subst (λ xs. IsPermutation ps (map now xs)) (sym e) h

lent_jobs : (ps : List Placed) (js ls : List (Bor Placed)) → IsPermutation ps (map now js) → ls ≡ js → AreJobs ps → AreJobs (map now ls)
lent_jobs ps js ls h e a = jobs-moved ps (map now ls) (same_jobs ps js ls h e) a

pub loop-each-init : goal.loop-each-init
loop-each-init g c = record { list = no_users _ c.in_ok-users.ensures.items; sums = λ q. ap (user_total q) c.in_ok-users.ensures.items }

pub of_job-requires : goal.of_job-requires
of_job-requires g c =
    let p = lent_placed c.as_slice-each-items.result.now c.loop-each.each-index c.each-item.result c.loop-each-test.true c.each-item.is (lent_jobs c.args.placed.now c.in_ok-jobs.jobs.items c.as_slice-each-items.result.now c.in_ok-jobs.ensures c.as_slice-each-items.ensures.value c.requires) in
    record { after_submit = p.after_submit; in_time = p.in_time }

pub add_user-requires-clause-fits : goal.add_user-requires-clause-fits
add_user-requires-clause-fits g c =
    let a = lent_jobs c.args.placed.now c.in_ok-jobs.jobs.items c.as_slice-each-items.result.now c.in_ok-jobs.ensures c.as_slice-each-items.ensures.value c.requires in
    let p = lent_placed c.as_slice-each-items.result.now c.loop-each.each-index c.each-item.result c.loop-each-test.true c.each-item.is a in
    let n = length-map c.as_slice-each-items.result.now now in
    let s : SFits w64 c.user.result = search rules in
    let P : UserSums → Type 0 = λ t. CanAdd t (alone c.each-item.result.now) in
    rw (to_z-of_z w64 c.user.result s, c.user.ensures, c.of_job.ensures) (subst P (sym (c.loop-each.invariant.sums c.each-item.result.now.job.user)) (sums_more_fit (map now c.as_slice-each-items.result.now) c.loop-each.each-index c.each-item.result.now a (omega (arith, n, c.loop-each-test.true)) p))

pub loop-each-preserved : goal.loop-each-preserved
loop-each-preserved g c = record {
  list = c.in_ok-add_user.ensures.list;
  sums = λ q.
      let n = length-map c.as_slice-each-items.result.now now in
      let s : SFits w64 c.user.result = search rules in
      let u = rw (to_z-of_z w64 c.user.result s, c.user.ensures, c.of_job.ensures) at c.in_ok-add_user.ensures.sums q in
      u ∙ ap (λ t. plus t (cond (int_eq q c.each-item.result.now.job.user) (alone c.each-item.result.now) no_sums)) (c.loop-each.invariant.sums q)
      ∙ sym (sums_more q (map now c.as_slice-each-items.result.now) c.loop-each.each-index c.each-item.result.now (omega (arith, n, c.loop-each-test.true)) (lent_is c.as_slice-each-items.result.now c.loop-each.each-index c.each-item.result c.loop-each-test.true c.each-item.is));
}

pub returns-clause-list : goal.returns-clause-list
returns-clause-list g c = c.loop-each.invariant.list

pub returns-clause-sums : goal.returns-clause-sums
returns-clause-sums g c = λ q.
    let n = length-map c.as_slice-each-items.result.now now in
    c.loop-each.invariant.sums q
    ∙ ap (sums_of q) (take_all c.loop-each.each-index (map now c.as_slice-each-items.result.now) (omega (arith, n, c.loop-each-test.false)))
    ∙ sums_of-moved q c.args.placed.now (map now c.as_slice-each-items.result.now) (same_jobs c.args.placed.now c.in_ok-jobs.jobs.items c.as_slice-each-items.result.now c.in_ok-jobs.ensures c.as_slice-each-items.ensures.value)
