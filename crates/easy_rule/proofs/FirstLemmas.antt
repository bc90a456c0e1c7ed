-- The next job is the first in the order, of those that may start.
use Rattle.std.proofs.Common.{◌≡◌, ℕ, zero, suc, ◌+◌, ◌≤◌, ◌<◌, Bool, true, false, nat_le, List, [], ◌∷◌, slice_get, Option, Some, None, All, MatchOption, find, sym, ◌∙◌, ap, arith, subst, inl, inr, ⊎_elim, ◌⊎◌}
use Rattle.std.proofs.lemmas.List.Elements.{All-head, All-tail, All-nil, All-cons, All-weaker}
use Rattle.std.proofs.lemmas.Bool.{cond-true, cond-false, cases_Bool, cases_lt, lt-leb}
use Rattle.scenarios.specs.Job.{EffectiveJob}
use Rattle.scenarios.specs.declared.order.Order.{Order}
use Rattle.scenarios.specs.declared.order.Order.TheVariants.{Arrival, Shortest}
use Rattle.cluster_state.specs.State.{free}
use Rattle.cluster_state.specs.Candidates.{put, by_estimate, in_order}
use Rattle.cluster_state.proofs.Lemmas.{RisesByEstimate, put-before, put-behind, rises-by_estimate, find-put, by_estimate-All, in_order-All}
use Rattle.easy_rule.specs.Rule.{next, next_of, may_backfill, shadow_at}
use Rattle.easy_rule.specs.Laws.{IsFirst, IsNotAfter, NextIsTheFirst}
use Rattle.easy_rule.proofs.PassLemmas.{none-passes}
use Rattle.easy_rule.proofs.Decisions.{cases_option}

true_false : true ≡ false → ⊥
true_false e = cc

All-at : (P : EffectiveJob → Type 0) (js : List EffectiveJob) (m : ℕ) (other : EffectiveJob) → All P js → slice_get js m ≡ Some other → P other
All-at P [] m other a e = cc
All-at P (j ∷ js) zero other a e = let same : j ≡ other = cc in subst P same (All-head P j js a)
All-at P (j ∷ js) (suc m) other a e = All-at P js m other (All-tail P j js a) e

find-put-passes : (q : EffectiveJob → Bool) (j : EffectiveJob) (xs : List EffectiveJob) (job : EffectiveJob) → q j ≡ true → RisesByEstimate xs → find q (put j xs) ≡ Some job
    → ((j ≡ job) × All (λ x. q x ≡ true → j.estimate ≤ x.estimate) xs) ⊎ ((find q xs ≡ Some job) × (job.estimate < j.estimate))
find-put-passes q j [] job y r e =
    let k : Some j ≡ Some job = sym (cond-true (q j) (Some j) None y) ∙ e in
    let same : j ≡ job = cc in
    inl (same, All-nil (λ x. q x ≡ true → j.estimate ≤ x.estimate))
find-put-passes q j (x ∷ xs) job y r e =
    ⊎_elim
    (λ (l : j.estimate < x.estimate + 1).
    let k : Some j ≡ Some job = sym (cond-true (q j) (Some j) (find q (x ∷ xs)) y) ∙ sym (ap (find q) (put-before j x xs (omega arith))) ∙ e in
    let same : j ≡ job = cc in
    inl (same, All-cons (λ x. q x ≡ true → j.estimate ≤ x.estimate) x xs (λ _. omega arith) (All-weaker (λ z. x.estimate ≤ z.estimate) (λ z. q z ≡ true → j.estimate ≤ z.estimate) (λ z h _. omega arith) xs r.0)))
    (λ (l : x.estimate + 1 ≤ j.estimate).
    let e' : find q (x ∷ put j xs) ≡ Some job = sym (ap (find q) (put-behind j x xs (omega arith))) ∙ e in
    ⊎_elim
    (λ (h : q x ≡ true).
    let k : Some x ≡ Some job = sym (cond-true (q x) (Some x) (find q (put j xs)) h) ∙ e' in
    let same : x ≡ job = cc in
    let short = ap (λ (z : EffectiveJob). z.estimate) same in
    inr (cond-true (q x) (Some x) (find q xs) h ∙ k, omega arith))
    (λ (h : q x ≡ false).
    let k : find q (put j xs) ≡ Some job = sym (cond-false (q x) (Some x) (find q (put j xs)) h) ∙ e' in
    ⊎_elim
    (λ (v : (j ≡ job) × All (λ x. q x ≡ true → j.estimate ≤ x.estimate) xs).
    inl (v.0, All-cons (λ x. q x ≡ true → j.estimate ≤ x.estimate) x xs (λ z. absurd (true_false (sym z ∙ h))) v.1))
    (λ (v : (find q xs ≡ Some job) × (job.estimate < j.estimate)). inr (cond-false (q x) (Some x) (find q xs) h ∙ v.0, v.1))
    (find-put-passes q j xs job y r.1 k))
    (cases_Bool (q x)))
    (cases_lt j.estimate (x.estimate + 1))

shift : (a : EffectiveJob) (k : ℕ) (b : EffectiveJob) (m : ℕ) → IsNotAfter Shortest a k b m → IsNotAfter Shortest a (suc k) b (suc m)
shift a k b m (inl l) = inl l
shift a k b m (inr p) = inr (p.0, let l = p.1 in omega arith)

first-shortest : (q : EffectiveJob → Bool) (js : List EffectiveJob) (job : EffectiveJob) → find q (by_estimate js) ≡ Some job → IsFirst Shortest q js job
first-shortest q [] job e = cc
first-shortest q (j ∷ js) job e =
    ⊎_elim
    (λ (y : q j ≡ true).
    ⊎_elim
    (λ (v : (j ≡ job) × All (λ x. q x ≡ true → j.estimate ≤ x.estimate) (by_estimate js)).
    let all : All (λ x. q x ≡ true → j.estimate ≤ x.estimate) js = by_estimate-All (λ x. q x ≡ true → j.estimate ≤ x.estimate) js v.1 in
    let same = ap (λ (z : EffectiveJob). z.estimate) v.0 in
    record {
      place = zero;
      stands = ap Some v.0;
      passed = subst (λ z. q z ≡ true) v.0 y;
      first = λ m other at h. at-first q j js job all same m other at h;
    })
    (λ (v : (find q (by_estimate js) ≡ Some job) × (job.estimate < j.estimate)).
    let i = first-shortest q js job v.0 in
    record {
      place = suc i.place;
      stands = i.stands;
      passed = i.passed;
      first = λ m other at h. shorter q j js job i v.1 m other at h;
    })
    (find-put-passes q j (by_estimate js) job y (rises-by_estimate js) e))
    (λ (n : q j ≡ false).
    let i = first-shortest q js job (sym (find-put q j (by_estimate js) n) ∙ e) in
    record {
      place = suc i.place;
      stands = i.stands;
      passed = i.passed;
      first = λ m other at h. others q j js job i n m other at h;
    })
    (cases_Bool (q j))
  where
    at-first : (q : EffectiveJob → Bool) (j : EffectiveJob) (js : List EffectiveJob) (job : EffectiveJob) → All (λ x. q x ≡ true → j.estimate ≤ x.estimate) js → j.estimate ≡ job.estimate
        → (m : ℕ) (other : EffectiveJob) → slice_get (j ∷ js) m ≡ Some other → q other ≡ true → IsNotAfter Shortest job zero other m
    at-first q j js job all same zero other at h =
        let k : j ≡ other = cc in let e = ap (λ (z : EffectiveJob). z.estimate) k in inr (let z : job.estimate ≡ other.estimate = omega arith in z, omega arith)
    at-first q j js job all same (suc m) other at h =
        let l : j.estimate ≤ other.estimate = All-at (λ x. q x ≡ true → j.estimate ≤ x.estimate) js m other all at h in
        ⊎_elim
        (λ (s : job.estimate < other.estimate). inl s)
        (λ (s : other.estimate ≤ job.estimate). inr (let z : job.estimate ≡ other.estimate = omega arith in z, omega arith))
        (cases_lt job.estimate other.estimate)

    shorter : (q : EffectiveJob → Bool) (j : EffectiveJob) (js : List EffectiveJob) (job : EffectiveJob) (i : IsFirst Shortest q js job) → job.estimate < j.estimate
        → (m : ℕ) (other : EffectiveJob) → slice_get (j ∷ js) m ≡ Some other → q other ≡ true → IsNotAfter Shortest job (suc i.place) other m
    shorter q j js job i l zero other at h = let k : j ≡ other = cc in let e = ap (λ (z : EffectiveJob). z.estimate) k in inl (omega arith)
    shorter q j js job i l (suc m) other at h = shift job i.place other m (i.first m other at h)

    others : (q : EffectiveJob → Bool) (j : EffectiveJob) (js : List EffectiveJob) (job : EffectiveJob) (i : IsFirst Shortest q js job) → q j ≡ false
        → (m : ℕ) (other : EffectiveJob) → slice_get (j ∷ js) m ≡ Some other → q other ≡ true → IsNotAfter Shortest job (suc i.place) other m
    others q j js job i n zero other at h = let k : j ≡ other = cc in absurd (true_false (sym h ∙ ap q (sym k) ∙ n))
    others q j js job i n (suc m) other at h = shift job i.place other m (i.first m other at h)

first-arrival : (q : EffectiveJob → Bool) (js : List EffectiveJob) (job : EffectiveJob) → find q js ≡ Some job → IsFirst Arrival q js job
first-arrival q [] job e = cc
first-arrival q (j ∷ js) job e =
    ⊎_elim
    (λ (y : q j ≡ true).
    let k : Some j ≡ Some job = sym (cond-true (q j) (Some j) (find q js) y) ∙ e in
    let same : j ≡ job = cc in
    record { place = zero; stands = k; passed = subst (λ z. q z ≡ true) same y; first = λ m other at h. omega arith })
    (λ (n : q j ≡ false).
    let i = first-arrival q js job (sym (cond-false (q j) (Some j) (find q js) n) ∙ e) in
    record { place = suc i.place; stands = i.stands; passed = i.passed; first = λ m other at h. others q j js job i n m other at h })
    (cases_Bool (q j))
  where
    others : (q : EffectiveJob → Bool) (j : EffectiveJob) (js : List EffectiveJob) (job : EffectiveJob) (i : IsFirst Arrival q js job) → q j ≡ false
        → (m : ℕ) (other : EffectiveJob) → slice_get (j ∷ js) m ≡ Some other → q other ≡ true → IsNotAfter Arrival job (suc i.place) other m
    others q j js job i n zero other at h = let k : j ≡ other = cc in absurd (true_false (sym h ∙ ap q (sym k) ∙ n))
    others q j js job i n (suc m) other at h = let l = i.first m other at h in omega arith

first-found : (o : Order) (q : EffectiveJob → Bool) (js : List EffectiveJob) (job : EffectiveJob) → find q (in_order o js) ≡ Some job → IsFirst o q js job
first-found Arrival q js job e = first-arrival q js job e
first-found Shortest q js job e = first-shortest q js job e

pub next_is_the_first : NextIsTheFirst
next_is_the_first s now head rest queue waits =
    let q = may_backfill now (free s) (shadow_at s head.size) in
    let M : Option EffectiveJob → Type 0 = λ o. MatchOption o (All (λ j. q j ≡ false) rest) (λ job. IsFirst s.order q rest job) in
    let is : next s now ≡ find q (in_order s.order rest) = ap (next_of s now) queue ∙ cond-false (nat_le head.size (free s)) (Some head) (find q (in_order s.order rest)) (lt-leb head.size (free s) waits) in
    subst M (sym is)
    (⊎_elim
    (λ (e : find q (in_order s.order rest) ≡ None). subst M (sym e) (in_order-All (λ j. q j ≡ false) s.order rest (none-passes q (in_order s.order rest) e)))
    (λ (f : (job : EffectiveJob) × (find q (in_order s.order rest) ≡ Some job)). subst M (sym f.1) (first-found s.order q rest f.0 f.1))
    (cases_option (find q (in_order s.order rest))))
