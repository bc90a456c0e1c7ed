-- The order in which later jobs are looked at. By estimate, who joins the queue stands behind those of no longer estimate, and who leaves it
-- moves nobody else; whom a search refuses may as well not stand there.
use Rattle.std.proofs.Common.{◌≡◌, ℕ, ◌+◌, ◌≤◌, ◌<◌, Bool, true, false, cond, nat_eq, nat_lt, nat_le, List, [], ◌∷◌, ◌++◌, Some, None, All, find, sum_by, count_by, refl, sym, ◌∙◌, ap, arith, subst, ⊎_elim}
use Rattle.std.proofs.lemmas.List.Sums.{sum_by-cons}
use Rattle.std.proofs.lemmas.List.Elements.{All-cons, All-head, All-tail, All-nil, All-weaker}
use Rattle.std.proofs.lemmas.Bool.{cond_both, cond-true, cond-false, cases_Bool, le-leb, lt-leb, lt-ltb, le-ltb, cases_lt}
use Rattle.scenarios.specs.Job.{EffectiveJob}
use Rattle.scenarios.specs.declared.order.Order.{Order}
use Rattle.scenarios.specs.declared.order.Order.TheVariants.{Arrival, Shortest}
use Rattle.cluster_state.specs.State.{without}
use Rattle.cluster_state.specs.Candidates.{put, by_estimate, in_order, candidates_of, put_last}

-- a job whose estimate is no longer than the first one's is put before it
pub put-before : (j x : EffectiveJob) (xs : List EffectiveJob) → j.estimate ≤ x.estimate → put j (x ∷ xs) ≡ j ∷ x ∷ xs
put-before j x xs l = cond-true (nat_le j.estimate x.estimate) (j ∷ x ∷ xs) (x ∷ put j xs) (le-leb j.estimate x.estimate l)

-- a job whose estimate is longer than the first one's is put among those behind it
pub put-behind : (j x : EffectiveJob) (xs : List EffectiveJob) → x.estimate < j.estimate → put j (x ∷ xs) ≡ x ∷ put j xs
put-behind j x xs l = cond-false (nat_le j.estimate x.estimate) (j ∷ x ∷ xs) (x ∷ put j xs) (lt-leb j.estimate x.estimate l)

-- the estimates of these jobs do not fall
abbrev pub RisesByEstimate : List EffectiveJob → Type 0
RisesByEstimate [] = Unit {0}
RisesByEstimate (x ∷ xs) = All (λ y. x.estimate ≤ y.estimate) xs × RisesByEstimate xs

pub All-put : (P : EffectiveJob → Type 0) (j : EffectiveJob) (xs : List EffectiveJob) → P j → All P xs → All P (put j xs)
All-put P j [] h a = All-cons P j [] h a
All-put P j (x ∷ xs) h a =
    cond_both (nat_le j.estimate x.estimate) (j ∷ x ∷ xs) (x ∷ put j xs) (λ l. All P l)
    (λ _. All-cons P j (x ∷ xs) h a)
    (λ _. All-cons P x (put j xs) (All-head P x xs a) (All-put P j xs h (All-tail P x xs a)))

pub put-All : (P : EffectiveJob → Type 0) (j : EffectiveJob) (xs : List EffectiveJob) → All P (put j xs) → P j × All P xs
put-All P j [] a = (All-head P j [] a, All-tail P j [] a)
put-All P j (x ∷ xs) a =
    ⊎_elim
    (λ (l : j.estimate < x.estimate + 1).
    let b = subst (λ l. All P l) (put-before j x xs (omega arith)) a in
    (All-head P j (x ∷ xs) b, All-tail P j (x ∷ xs) b))
    (λ (l : x.estimate + 1 ≤ j.estimate).
    let b = subst (λ l. All P l) (put-behind j x xs (omega arith)) a in
    let p = put-All P j xs (All-tail P x (put j xs) b) in
    (p.0, All-cons P x xs (All-head P x (put j xs) b) p.1))
    (cases_lt j.estimate (x.estimate + 1))

pub rises-put : (j : EffectiveJob) (xs : List EffectiveJob) → RisesByEstimate xs → RisesByEstimate (put j xs)
rises-put j [] r = (All-nil (λ y. j.estimate ≤ y.estimate), tt)
rises-put j (x ∷ xs) r =
    ⊎_elim
    (λ (l : j.estimate < x.estimate + 1).
    subst RisesByEstimate (sym (put-before j x xs (omega arith)))
    (All-cons (λ y. j.estimate ≤ y.estimate) x xs (omega arith) (All-weaker (λ y. x.estimate ≤ y.estimate) (λ y. j.estimate ≤ y.estimate) (λ y h. omega arith) xs r.0), r))
    (λ (l : x.estimate + 1 ≤ j.estimate).
    subst RisesByEstimate (sym (put-behind j x xs (omega arith))) (All-put (λ y. x.estimate ≤ y.estimate) j xs (omega arith) r.0, rises-put j xs r.1))
    (cases_lt j.estimate (x.estimate + 1))

-- in the order by estimate the estimates do not fall
pub rises-by_estimate : (js : List EffectiveJob) → RisesByEstimate (by_estimate js)
rises-by_estimate [] = tt
rises-by_estimate (j ∷ js) = rises-put j (by_estimate js) (rises-by_estimate js)

-- what holds of all jobs holds of all in the order by estimate
pub All-by_estimate : (P : EffectiveJob → Type 0) (js : List EffectiveJob) → All P js → All P (by_estimate js)
All-by_estimate P [] a = a
All-by_estimate P (j ∷ js) a = All-put P j (by_estimate js) (All-head P j js a) (All-by_estimate P js (All-tail P j js a))

-- what holds of all in the order by estimate holds of all jobs
pub by_estimate-All : (P : EffectiveJob → Type 0) (js : List EffectiveJob) → All P (by_estimate js) → All P js
by_estimate-All P [] a = a
by_estimate-All P (j ∷ js) a = let p = put-All P j (by_estimate js) a in All-cons P j js p.0 (by_estimate-All P js p.1)

-- what holds of all in the order in which they are looked at holds of all jobs
pub in_order-All : (P : EffectiveJob → Type 0) (o : Order) (js : List EffectiveJob) → All P (in_order o js) → All P js
in_order-All P Arrival js a = a
in_order-All P Shortest js a = by_estimate-All P js a

pub none-of : (p : EffectiveJob → Bool) (js : List EffectiveJob) → count_by p js ≡ 0 → All (λ j. p j ≡ false) js
none-of p [] e = All-nil (λ j. p j ≡ false)
none-of p (j ∷ js) e =
    let k = sum_by-cons (λ (j : EffectiveJob). cond (p j) 1 0) j js in
    ⊎_elim
    (λ (y : p j ≡ true). let one = cond-true {A = ℕ} (p j) 1 0 y in absurd (omega (arith, e, k, one)))
    (λ (n : p j ≡ false). All-cons (λ j. p j ≡ false) j js n (none-of p js (omega (arith, e, k))))
    (cases_Bool (p j))

without-put-same : (n : ℕ) (j : EffectiveJob) (xs : List EffectiveJob) → nat_eq j.number n ≡ true → All (λ x. nat_eq x.number n ≡ false) xs → without n (put j xs) ≡ xs
without-put-same n j [] e a = cond-true (nat_eq j.number n) [] (j ∷ []) e
without-put-same n j (x ∷ xs) e a =
    cond_both (nat_le j.estimate x.estimate) (j ∷ x ∷ xs) (x ∷ put j xs) (λ l. without n l ≡ x ∷ xs)
    (λ _. cond-true (nat_eq j.number n) (x ∷ xs) (j ∷ without n (x ∷ xs)) e)
    (λ _. cond-false (nat_eq x.number n) (put j xs) (x ∷ without n (put j xs)) (All-head (λ x. nat_eq x.number n ≡ false) x xs a)
    ∙ ap (λ l. x ∷ l) (without-put-same n j xs e (All-tail (λ x. nat_eq x.number n ≡ false) x xs a)))

put-first : (j : EffectiveJob) (xs : List EffectiveJob) → All (λ y. j.estimate ≤ y.estimate) xs → put j xs ≡ j ∷ xs
put-first j [] a = refl
put-first j (x ∷ xs) a = put-before j x xs (All-head (λ y. j.estimate ≤ y.estimate) x xs a)

without-put-other : (n : ℕ) (j : EffectiveJob) (xs : List EffectiveJob) → nat_eq j.number n ≡ false → RisesByEstimate xs → without n (put j xs) ≡ put j (without n xs)
without-put-other n j [] e r = cond-false (nat_eq j.number n) [] (j ∷ []) e
without-put-other n j (x ∷ xs) e r =
    ⊎_elim
    (λ (y : nat_eq x.number n ≡ true).
    let gone : without n (x ∷ xs) ≡ xs = cond-true (nat_eq x.number n) xs (x ∷ without n xs) y in
    ⊎_elim
    (λ (l : j.estimate < x.estimate + 1).
    ap (without n) (put-before j x xs (omega arith)) ∙ cond-false (nat_eq j.number n) (x ∷ xs) (j ∷ without n (x ∷ xs)) e ∙ ap (λ l. j ∷ l) gone
    ∙ sym (ap (put j) gone ∙ put-first j xs (All-weaker (λ y. x.estimate ≤ y.estimate) (λ y. j.estimate ≤ y.estimate) (λ y h. omega arith) xs r.0)))
    (λ (l : x.estimate + 1 ≤ j.estimate).
    ap (without n) (put-behind j x xs (omega arith)) ∙ cond-true (nat_eq x.number n) (put j xs) (x ∷ without n (put j xs)) y ∙ sym (ap (put j) gone))
    (cases_lt j.estimate (x.estimate + 1)))
    (λ (f : nat_eq x.number n ≡ false).
    let stays : without n (x ∷ xs) ≡ x ∷ without n xs = cond-false (nat_eq x.number n) xs (x ∷ without n xs) f in
    ⊎_elim
    (λ (l : j.estimate < x.estimate + 1).
    ap (without n) (put-before j x xs (omega arith)) ∙ cond-false (nat_eq j.number n) (x ∷ xs) (j ∷ without n (x ∷ xs)) e ∙ ap (λ l. j ∷ l) stays
    ∙ sym (ap (put j) stays ∙ put-before j x (without n xs) (omega arith)))
    (λ (l : x.estimate + 1 ≤ j.estimate).
    ap (without n) (put-behind j x xs (omega arith)) ∙ cond-false (nat_eq x.number n) (put j xs) (x ∷ without n (put j xs)) f
    ∙ ap (λ l. x ∷ l) (without-put-other n j xs e r.1)
    ∙ sym (ap (put j) stays ∙ put-behind j x (without n xs) (omega arith)))
    (cases_lt j.estimate (x.estimate + 1)))
    (cases_Bool (nat_eq x.number n))

-- who leaves the queue leaves the order by estimate, and nobody else moves, where the number stands at most once
pub without-by_estimate : (n : ℕ) (js : List EffectiveJob) → count_by (λ (j : EffectiveJob). nat_eq j.number n) js ≤ 1 → without n (by_estimate js) ≡ by_estimate (without n js)
without-by_estimate n [] once = refl
without-by_estimate n (j ∷ js) once =
    let p : EffectiveJob → ℕ = λ j. cond (nat_eq j.number n) 1 0 in
    let k = sum_by-cons p j js in
    ⊎_elim
    (λ (y : nat_eq j.number n ≡ true).
    let one = cond-true {A = ℕ} (nat_eq j.number n) 1 0 y in
    let none = none-of (λ (j : EffectiveJob). nat_eq j.number n) js (omega (arith, one, k)) in
    without-put-same n j (by_estimate js) y (All-by_estimate (λ x. nat_eq x.number n ≡ false) js none)
    ∙ ap by_estimate (sym (cond-true (nat_eq j.number n) js (j ∷ without n js) y)))
    (λ (f : nat_eq j.number n ≡ false).
    without-put-other n j (by_estimate js) f (rises-by_estimate js)
    ∙ ap (put j) (without-by_estimate n js (omega (arith, k)))
    ∙ ap by_estimate (sym (cond-false (nat_eq j.number n) js (j ∷ without n js) f)))
    (cases_Bool (nat_eq j.number n))

last-before : (j x : EffectiveJob) (xs : List EffectiveJob) → j.estimate < x.estimate → put_last j (x ∷ xs) ≡ j ∷ x ∷ xs
last-before j x xs l = cond-true (nat_lt j.estimate x.estimate) (j ∷ x ∷ xs) (x ∷ put_last j xs) (lt-ltb j.estimate x.estimate l)

last-behind : (j x : EffectiveJob) (xs : List EffectiveJob) → x.estimate ≤ j.estimate → put_last j (x ∷ xs) ≡ x ∷ put_last j xs
last-behind j x xs l = cond-false (nat_lt j.estimate x.estimate) (j ∷ x ∷ xs) (x ∷ put_last j xs) (le-ltb j.estimate x.estimate l)

put-put_last : (a b : EffectiveJob) (xs : List EffectiveJob) → put a (put_last b xs) ≡ put_last b (put a xs)
put-put_last a b [] =
    ⊎_elim
    (λ (l : a.estimate < b.estimate + 1). put-before a b [] (omega arith) ∙ sym (last-behind b a [] (omega arith)))
    (λ (l : b.estimate + 1 ≤ a.estimate). put-behind a b [] (omega arith) ∙ sym (last-before b a [] (omega arith)))
    (cases_lt a.estimate (b.estimate + 1))
put-put_last a b (x ∷ xs) =
    ⊎_elim
    (λ (p : a.estimate < x.estimate + 1).
    ⊎_elim
    (λ (q : b.estimate < x.estimate).
    ap (put a) (last-before b x xs q)
    ∙ ⊎_elim
    (λ (l : a.estimate < b.estimate + 1). put-before a b (x ∷ xs) (omega arith) ∙ sym (ap (put_last b) (put-before a x xs (omega arith)) ∙ last-behind b a (x ∷ xs) (omega arith) ∙ ap (λ l. a ∷ l) (last-before b x xs q)))
    (λ (l : b.estimate + 1 ≤ a.estimate). put-behind a b (x ∷ xs) (omega arith) ∙ ap (λ l. b ∷ l) (put-before a x xs (omega arith)) ∙ sym (ap (put_last b) (put-before a x xs (omega arith)) ∙ last-before b a (x ∷ xs) (omega arith)))
    (cases_lt a.estimate (b.estimate + 1)))
    (λ (q : x.estimate ≤ b.estimate).
    ap (put a) (last-behind b x xs q) ∙ put-before a x (put_last b xs) (omega arith)
    ∙ sym (ap (put_last b) (put-before a x xs (omega arith)) ∙ last-behind b a (x ∷ xs) (omega arith) ∙ ap (λ l. a ∷ l) (last-behind b x xs q)))
    (cases_lt b.estimate x.estimate))
    (λ (p : x.estimate + 1 ≤ a.estimate).
    ⊎_elim
    (λ (q : b.estimate < x.estimate).
    ap (put a) (last-before b x xs q) ∙ put-behind a b (x ∷ xs) (omega arith) ∙ ap (λ l. b ∷ l) (put-behind a x xs (omega arith))
    ∙ sym (ap (put_last b) (put-behind a x xs (omega arith)) ∙ last-before b x (put a xs) q))
    (λ (q : x.estimate ≤ b.estimate).
    ap (put a) (last-behind b x xs q) ∙ put-behind a x (put_last b xs) (omega arith) ∙ ap (λ l. x ∷ l) (put-put_last a b xs)
    ∙ sym (ap (put_last b) (put-behind a x xs (omega arith)) ∙ last-behind b x (put a xs) q))
    (cases_lt b.estimate x.estimate))
    (cases_lt a.estimate (x.estimate + 1))

-- who joins the queue stands in the order by estimate before the first whose estimate is longer
pub by_estimate-arrived : (js : List EffectiveJob) (job : EffectiveJob) → by_estimate (js ++ job ∷ []) ≡ put_last job (by_estimate js)
by_estimate-arrived [] job = refl
by_estimate-arrived (j ∷ js) job = ap (put j) (by_estimate-arrived js job) ∙ put-put_last j job (by_estimate js)

-- a search finds the same among jobs where one is put that it refuses
pub find-put : (q : EffectiveJob → Bool) (j : EffectiveJob) (xs : List EffectiveJob) → q j ≡ false → find q (put j xs) ≡ find q xs
find-put q j [] e = cond-false (q j) (Some j) None e
find-put q j (x ∷ xs) e =
    cond_both (nat_le j.estimate x.estimate) (j ∷ x ∷ xs) (x ∷ put j xs) (λ l. find q l ≡ find q (x ∷ xs))
    (λ _. cond-false (q j) (Some j) (find q (x ∷ xs)) e)
    (λ _. ap (λ o. cond (q x) (Some x) o) (find-put q j xs e))

-- a search in the order finds the same with one job more in front of the queue that it refuses
pub find-in_order : (q : EffectiveJob → Bool) (o : Order) (j : EffectiveJob) (js : List EffectiveJob) → q j ≡ false → find q (in_order o (j ∷ js)) ≡ find q (in_order o js)
find-in_order q Arrival j js e = cond-false (q j) (Some j) (find q js) e
find-in_order q Shortest j js e = find-put q j (by_estimate js) e

-- the kept candidates without a number that stands at most once are those of the queue without it
pub candidates-started : (o : Order) (n : ℕ) (js : List EffectiveJob) → count_by (λ (j : EffectiveJob). nat_eq j.number n) js ≤ 1 → without n (candidates_of o js) ≡ candidates_of o (without n js)
candidates-started Arrival n js once = refl
candidates-started Shortest n js once = without-by_estimate n js once

sum_by-put : (f : EffectiveJob → ℕ) (j : EffectiveJob) (xs : List EffectiveJob) → sum_by f (put j xs) ≡ f j + sum_by f xs
sum_by-put f j [] = omega arith
sum_by-put f j (x ∷ xs) =
    cond_both (nat_le j.estimate x.estimate) (j ∷ x ∷ xs) (x ∷ put j xs) (λ l. sum_by f l ≡ f j + sum_by f (x ∷ xs))
    (λ _. sum_by-cons f j (x ∷ xs))
    (λ _. sum_by-cons f x (put j xs) ∙ omega (arith, sum_by-put f j xs, sum_by-cons f x xs))

-- a sum over jobs is the same in the order by estimate
pub sum_by-by_estimate : (f : EffectiveJob → ℕ) (js : List EffectiveJob) → sum_by f (by_estimate js) ≡ sum_by f js
sum_by-by_estimate f [] = refl
sum_by-by_estimate f (j ∷ js) = omega (arith, sum_by-put f j (by_estimate js), sum_by-by_estimate f js, sum_by-cons f j js)
