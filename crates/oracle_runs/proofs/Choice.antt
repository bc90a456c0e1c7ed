-- Who starts next: in order of estimate, which of a job and later ones is the first that passes.
use Rattle.std.proofs.Common.{◌≡◌, ℕ, ◌+◌, ◌≤◌, ◌<◌, Bool, true, false, nat_le, List, [], ◌∷◌, Some, None, find, sym, ◌∙◌, ap, arith, subst, ⊎_elim}
use Rattle.std.proofs.lemmas.Bool.{cond-true, cond-false, cases_Bool, cases_lt, lt-leb}
use Rattle.scenarios.specs.Job.{EffectiveJob}
use Rattle.scenarios.specs.declared.order.Order.{Order}
use Rattle.cluster_state.specs.State.{State, free}
use Rattle.easy_rule.specs.Rule.{next, next_of, may_backfill, shadow_at}
use Rattle.cluster_state.specs.Candidates.{put, by_estimate, in_order}
use Rattle.cluster_state.proofs.Lemmas.{All-find, RisesByEstimate, put-before, put-behind, rises-by_estimate, find-put}

put-shorter : (q : EffectiveJob → Bool) (j b : EffectiveJob) (xs : List EffectiveJob) → RisesByEstimate xs → find q xs ≡ Some b → b.estimate < j.estimate → find q (put j xs) ≡ Some b
put-shorter q j b [] r e l = cc
put-shorter q j b (x ∷ xs) r e l =
    ⊎_elim
    (λ (y : q x ≡ true).
    let k : Some x ≡ Some b = sym (cond-true (q x) (Some x) (find q xs) y) ∙ e in
    let same : x ≡ b = cc in
    let short = ap (λ (z : EffectiveJob). z.estimate) same in
    ap (find q) (put-behind j x xs (omega (arith, short, l))) ∙ cond-true (q x) (Some x) (find q (put j xs)) y ∙ k)
    (λ (n : q x ≡ false).
    let k : find q xs ≡ Some b = sym (cond-false (q x) (Some x) (find q xs) n) ∙ e in
    let up = All-find (λ (z : EffectiveJob). x.estimate ≤ z.estimate) q xs b k r.0 in
    ap (find q) (put-behind j x xs (omega (arith, up, l))) ∙ cond-false (q x) (Some x) (find q (put j xs)) n ∙ put-shorter q j b xs r.1 k l)
    (cases_Bool (q x))

put-found : (q : EffectiveJob → Bool) (j : EffectiveJob) (xs : List EffectiveJob) → q j ≡ true → ((b : EffectiveJob) → find q xs ≡ Some b → j.estimate ≤ b.estimate) → find q (put j xs) ≡ Some j
put-found q j [] y h = cond-true (q j) (Some j) None y
put-found q j (x ∷ xs) y h =
    ⊎_elim
    (λ (l : j.estimate < x.estimate + 1). ap (find q) (put-before j x xs (omega arith)) ∙ cond-true (q j) (Some j) (find q (x ∷ xs)) y)
    (λ (l : x.estimate + 1 ≤ j.estimate).
    ap (find q) (put-behind j x xs (omega arith))
    ∙ ⊎_elim
    (λ (p : q x ≡ true). let low = h x (cond-true (q x) (Some x) (find q xs) p) in absurd (omega (arith, low, l)))
    (λ (n : q x ≡ false). cond-false (q x) (Some x) (find q (put j xs)) n ∙ put-found q j xs y (λ b e. h b (cond-false (q x) (Some x) (find q xs) n ∙ e)))
    (cases_Bool (q x)))
    (cases_lt j.estimate (x.estimate + 1))

-- in order of estimate, a job more that does not pass leaves the first that does
pub shortest-passed : (q : EffectiveJob → Bool) (j : EffectiveJob) (js : List EffectiveJob) → q j ≡ false → find q (by_estimate (j ∷ js)) ≡ find q (by_estimate js)
shortest-passed q j js n = find-put q j (by_estimate js) n

-- a job that passes is the first in order of estimate, where no later one passes
pub shortest-alone : (q : EffectiveJob → Bool) (j : EffectiveJob) (js : List EffectiveJob) → q j ≡ true → find q (by_estimate js) ≡ None → find q (by_estimate (j ∷ js)) ≡ Some j
shortest-alone q j js y e = put-found q j (by_estimate js) y (λ b k. cc)

-- in order of estimate, the first of the later ones that passes stays the first, where its estimate is less than that of the job
pub shortest-later : (q : EffectiveJob → Bool) (j b : EffectiveJob) (js : List EffectiveJob) → find q (by_estimate js) ≡ Some b → b.estimate < j.estimate → find q (by_estimate (j ∷ js)) ≡ Some b
shortest-later q j b js e l = put-shorter q j b (by_estimate js) (rises-by_estimate js) e l

-- a job that passes is the first in order of estimate, where the first of the later ones that does has no smaller estimate
pub shortest-first : (q : EffectiveJob → Bool) (j b : EffectiveJob) (js : List EffectiveJob) → q j ≡ true → find q (by_estimate js) ≡ Some b → j.estimate ≤ b.estimate → find q (by_estimate (j ∷ js)) ≡ Some j
shortest-first q j b js y e l =
    put-found q j (by_estimate js) y
    (λ x k. let m : Some b ≡ Some x = sym e ∙ k in let same : b ≡ x = cc in subst (λ (z : EffectiveJob). j.estimate ≤ z.estimate) same l)

-- with a head that does not fit, who starts next is found among the later jobs, in the order
pub next-later : (s : State) (now : ℕ) (head : EffectiveJob) (rest : List EffectiveJob) (o : Order) → s.waiting ≡ head ∷ rest → free s < head.size → s.order ≡ o
    → next s now ≡ find (may_backfill now (free s) (shadow_at s head.size)) (in_order o rest)
next-later s now head rest o queue waits e =
    let q = may_backfill now (free s) (shadow_at s head.size) in
    ap (next_of s now) queue
    ∙ cond-false (nat_le head.size (free s)) (Some head) (find q (in_order s.order rest)) (lt-leb head.size (free s) waits)
    ∙ ap (λ p. find q (in_order p rest)) e
