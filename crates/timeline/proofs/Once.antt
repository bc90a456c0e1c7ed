-- Each job starts once, when it has come: of each number, as many have started before a second or wait before it as have come.
use Rattle.std.proofs.Common.{◌≡◌, ℕ, zero, suc, ◌+◌, ◌-◌, ◌^◌, ◌≤◌, ◌<◌, Bool, true, false, cond, ◌&&◌, nat_eq, nat_lt, List, [], ◌∷◌, ◌++◌, append-nil, append_assoc, add-zero, length, get_or, IsSomeAnd, All, count_by, sum_by, filter, refl, sym, ◌∙◌, ap, arith, subst, ⊎_elim}
use Rattle.std.proofs.lemmas.List.Sums.{sum_by-cons, sum_by-append, sum_by-le-sum_by}
use Rattle.std.proofs.lemmas.List.Elements.{All-head, All-tail, All-nil, All-append, All-weaker}
use Rattle.std.proofs.lemmas.Bool.{cond-true, cond-false, cases_Bool, cases_eq, cases_lt, ne_eqb, eq-eqb, lt-ltb, le-ltb}
use Rattle.scenarios.specs.Job.{EffectiveJob}
use Rattle.scenarios.specs.Plan.{Plan}
use Rattle.cluster_state.specs.State.{State}
use Rattle.easy_rule.specs.declared.start.Start.{Start}
use Rattle.easy_rule.specs.Rule.{starts_at}
use Rattle.easy_rule.specs.Simulation.{before, starts_before, starts_in, ready, submitted, last_submit, bound, sim, start_of}
use Rattle.scenarios.specs.SoundPlan.{IsPlan}
use Rattle.timeline.specs.Laws.{EachJobStartsOnce, NoneStartsEarly}
use Rattle.timeline.proofs.Short.{short-plan}
use Rattle.timeline.proofs.Facts.{count-filter, run-ready, run-before, starts_before-more}
use Rattle.easy_rule.proofs.Lemmas.{outcome, starts-now}
use Rattle.timeline.proofs.Rest.{submits-by}
use Rattle.timeline.proofs.Bound.{all-have-ended}

-- how many of these starts have the number
abbrev pub starts_of : ℕ → List Start → ℕ
starts_of n xs = count_by (λ (x : Start). nat_eq x.number n) xs

-- how many of these jobs have the number
abbrev pub jobs_with : ℕ → List EffectiveJob → ℕ
jobs_with n js = count_by (λ (j : EffectiveJob). nat_eq j.number n) js

-- how many of these jobs have the number and are submitted before second t
abbrev pub come : ℕ → ℕ → List EffectiveJob → ℕ
come n t js = count_by (λ (j : EffectiveJob). nat_eq j.number n && nat_lt j.submit t) js

sums-are : {X : Type 0} (f g h : X → ℕ) (xs : List X) → ((x : X) → f x + g x ≡ h x) → sum_by f xs + sum_by g xs ≡ sum_by h xs
sums-are f g h [] l = omega arith
sums-are f g h (x ∷ xs) l = omega (arith, sum_by-cons f x xs, sum_by-cons g x xs, sum_by-cons h x xs, l x, sums-are f g h xs l)

-- of one number, the jobs submitted before t and those submitted at t are those submitted before t + 1
pub come-next : (n t : ℕ) (js : List EffectiveJob) → come n t js + jobs_with n (filter (λ (j : EffectiveJob). nat_eq j.submit t) js) ≡ come n (suc t) js
come-next n t js =
    let f : EffectiveJob → ℕ = λ j. cond (nat_eq j.number n && nat_lt j.submit t) 1 0 in
    let g : EffectiveJob → ℕ = λ j. cond (nat_eq j.number n && nat_eq j.submit t) 1 0 in
    let h : EffectiveJob → ℕ = λ j. cond (nat_eq j.number n && nat_lt j.submit (suc t)) 1 0 in
    omega (arith, count-filter (λ (j : EffectiveJob). nat_eq j.number n) (λ (j : EffectiveJob). nat_eq j.submit t) js, sums-are f g h js (λ j. one (nat_eq j.number n) j.submit t))
  where
    one : (b : Bool) (u t : ℕ) → cond {A = ℕ} (b && nat_lt u t) 1 0 + cond {A = ℕ} (b && nat_eq u t) 1 0 ≡ cond {A = ℕ} (b && nat_lt u (suc t)) 1 0
    one false u t = omega arith
    one true u t =
        ⊎_elim
        (λ (l : u < t). rw (lt-ltb u t l, ne_eqb u t (λ e. omega arith), lt-ltb u (suc t) (omega arith)) (omega arith))
        (λ (l : t ≤ u). ⊎_elim
        (λ (e : u ≡ t). rw (le-ltb u t l, eq-eqb u t e, lt-ltb u (suc t) (omega arith)) (omega arith))
        (λ (e : u ≡ t → ⊥). rw (le-ltb u t l, ne_eqb u t e, le-ltb u (suc t) (omega arith)) (omega arith))
        (cases_eq u t))
        (cases_lt u t)

come-none : (n : ℕ) (js : List EffectiveJob) → come n 0 js ≡ 0
come-none n [] = refl
come-none n (j ∷ js) = omega (arith, come-none n js, sum_by-cons (λ (j : EffectiveJob). cond {A = ℕ} (nat_eq j.number n && nat_lt j.submit 0) 1 0) j js, one (nat_eq j.number n) j.submit)
  where
    one : (b : Bool) (u : ℕ) → cond {A = ℕ} (b && nat_lt u 0) 1 0 ≡ 0
    one false u = refl
    one true u = rw (le-ltb u 0 (omega arith)) refl

come-all : (n t : ℕ) (js : List EffectiveJob) → All (λ j. j.submit < t) js → come n t js ≡ jobs_with n js
come-all n t [] a = refl
come-all n t (j ∷ js) a =
    omega (
      arith,
      come-all n t js (All-tail (λ (j : EffectiveJob). j.submit < t) j js a),
      sum_by-cons (λ (j : EffectiveJob). cond {A = ℕ} (nat_eq j.number n && nat_lt j.submit t) 1 0) j js,
      sum_by-cons (λ (j : EffectiveJob). cond {A = ℕ} (nat_eq j.number n) 1 0) j js,
      one (nat_eq j.number n) j.submit (All-head (λ (j : EffectiveJob). j.submit < t) j js a),
    )
  where
    one : (b : Bool) (u : ℕ) → u < t → cond {A = ℕ} (b && nat_lt u t) 1 0 ≡ cond {A = ℕ} b 1 0
    one false u l = refl
    one true u l = rw (lt-ltb u t l) refl

-- of one number, the starts before t and the jobs that wait before it are as many as the jobs submitted before t
pub counted : (plan : Plan) (n t : ℕ) → t ≤ 2 ^ 49 → IsPlan plan → starts_of n (starts_before plan t) + jobs_with n (before plan t).waiting ≡ come n t plan.jobs
unfolding before starts_before
counted plan n zero small p = omega (arith, come-none n plan.jobs)
counted plan n (suc t) small p =
    let s = ready plan (before plan t) t in
    let i = counted plan n t (omega arith) p in
    let sound = (run-ready plan (before plan t) t p (run-before plan t (omega arith) p)).sound in
    let a = outcome n (length s.waiting) s t (omega arith) sound in
    let b = sum_by-append (λ (x : Start). cond {A = ℕ} (nat_eq x.number n) 1 0) (starts_before plan t) (starts_at s t) in
    let c = sum_by-append (λ (j : EffectiveJob). cond {A = ℕ} (nat_eq j.number n) 1 0) (before plan t).waiting (submitted plan t) in
    let d = come-next n t plan.jobs in
    omega (arith, i, a, b, c, d)

-- each number has as many starts as jobs
pub each-job-starts-once : EachJobStartsOnce
each-job-starts-once plan n p =
    let k = short-plan plan p in
    let c = counted plan n (bound plan + 1) (omega (arith, k)) p in
    let e = ap (λ (z : State). jobs_with n z.waiting) (all-have-ended plan (bound plan + 1) p (omega arith)) in
    let a = come-all n (bound plan + 1) plan.jobs (All-weaker (λ (j : EffectiveJob). j.submit ≤ last_submit plan.jobs) (λ (j : EffectiveJob). j.submit < bound plan + 1) (λ j l. omega arith) plan.jobs (submits-by plan.jobs)) in
    omega (arith, c, e, a)

head-less : (b c : Bool) → cond {A = ℕ} (b && c) 1 0 ≤ cond {A = ℕ} b 1 0
head-less true true = omega arith
head-less true false = omega arith
head-less false c = omega arith

-- of one number, no more jobs are submitted before a second than there are
pub fewer : (n u : ℕ) (js : List EffectiveJob) → come n u js ≤ jobs_with n js
fewer n u js = sum_by-le-sum_by (λ (j : EffectiveJob). cond (nat_eq j.number n && nat_lt j.submit u) 1 0) (λ (j : EffectiveJob). cond (nat_eq j.number n) 1 0) js (λ j. head-less (nat_eq j.number n) (nat_lt j.submit u))

missed : (n u k : ℕ) (d : EffectiveJob) (js : List EffectiveJob) → k < length js → (get_or js k d).number ≡ n → u ≤ (get_or js k d).submit → come n u js + 1 ≤ jobs_with n js
missed n u k d [] l e m = absurd (omega arith)
missed n u zero d (j ∷ js) l e m =
    let f = sum_by-cons (λ (j : EffectiveJob). cond {A = ℕ} (nat_eq j.number n && nat_lt j.submit u) 1 0) j js in
    let g = sum_by-cons (λ (j : EffectiveJob). cond {A = ℕ} (nat_eq j.number n) 1 0) j js in
    let a = fewer n u js in
    let b = cond-true {A = ℕ} (nat_eq j.number n) 1 0 (eq-eqb j.number n e) in
    let c : cond {A = ℕ} (nat_eq j.number n && nat_lt j.submit u) 1 0 ≡ 0 = rw (eq-eqb j.number n e, le-ltb j.submit u m) refl in
    omega (arith, f, g, a, b, c)
missed n u (suc k) d (j ∷ js) l e m =
    let f = sum_by-cons (λ (j : EffectiveJob). cond {A = ℕ} (nat_eq j.number n && nat_lt j.submit u) 1 0) j js in
    let g = sum_by-cons (λ (j : EffectiveJob). cond {A = ℕ} (nat_eq j.number n) 1 0) j js in
    omega (arith, f, g, missed n u k d js (omega arith) e m, head-less (nat_eq j.number n) (nat_lt j.submit u))

-- the starts before t + n are those before t, and then some that come at t or later
pub later : (plan : Plan) (t n : ℕ) → (xs : List Start) × (starts_before plan (t + n) ≡ starts_before plan t ++ xs) × All (λ (x : Start). t ≤ x.at) xs
later plan t zero = ([], ap (starts_before plan) (add-zero t) ∙ sym (append-nil (starts_before plan t)), All-nil (λ (x : Start). t ≤ x.at))
later plan t (suc n) =
    let i = later plan t n in
    let s = ready plan (before plan (t + n)) (t + n) in
    let one : t + suc n ≡ (t + n) + 1 = omega arith in (
      i.0 ++ starts_in plan (t + n),
      ap (starts_before plan) one ∙ starts_before-more plan (t + n) ∙ ap (λ l. l ++ starts_in plan (t + n)) i.1 ∙ append_assoc (starts_before plan t) i.0 (starts_in plan (t + n)),
      All-append (λ (x : Start). t ≤ x.at) i.0 (starts_in plan (t + n)) i.2 (All-weaker (λ (x : Start). x.at ≡ t + n) (λ (x : Start). t ≤ x.at) (λ x e. omega arith) (starts_in plan (t + n)) (starts-now (length s.waiting) s (t + n))),
    )

found-among : (n t : ℕ) (ys : List Start) → 1 ≤ starts_of n ys → All (λ (x : Start). t ≤ x.at) ys → IsSomeAnd (start_of ys n) (λ u. t ≤ u)
found-among n t [] l a = absurd (omega arith)
found-among n t (y ∷ ys) l a =
    let e = sum_by-cons (λ (x : Start). cond {A = ℕ} (nat_eq x.number n) 1 0) y ys in
    ⊎_elim
    (λ (h : nat_eq y.number n ≡ true). rw h (All-head (λ (x : Start). t ≤ x.at) y ys a))
    (λ (h : nat_eq y.number n ≡ false).
    let f = cond-false {A = ℕ} (nat_eq y.number n) 1 0 h in
    rw h (found-among n t ys (omega (arith, e, f, l)) (All-tail (λ (x : Start). t ≤ x.at) y ys a)))
    (cases_Bool (nat_eq y.number n))

found-later : (n t : ℕ) (xs ys : List Start) → starts_of n xs ≡ 0 → 1 ≤ starts_of n ys → All (λ (x : Start). t ≤ x.at) ys → IsSomeAnd (start_of (xs ++ ys) n) (λ u. t ≤ u)
found-later n t [] ys z l a = found-among n t ys l a
found-later n t (x ∷ xs) ys z l a =
    let e = sum_by-cons (λ (x : Start). cond {A = ℕ} (nat_eq x.number n) 1 0) x xs in
    ⊎_elim
    (λ (h : nat_eq x.number n ≡ true). let f = cond-true {A = ℕ} (nat_eq x.number n) 1 0 h in absurd (omega (arith, e, f, z)))
    (λ (h : nat_eq x.number n ≡ false). rw h (found-later n t xs ys (omega (arith, e, z)) l a))
    (cases_Bool (nat_eq x.number n))

-- each job has a start, at its submit second or later
pub none-starts-early : NoneStartsEarly
none-starts-early plan p k d l =
    let j : EffectiveJob = get_or plan.jobs k d in
    let t : ℕ = j.submit in
    let within : j.submit ≤ last_submit plan.jobs = submits-by plan.jobs k d l in
    let short = short-plan plan p in
    let whole : t + (bound plan + 1 - t) ≡ bound plan + 1 = omega (arith, within) in
    let none = missed j.number t k d plan.jobs l refl (omega arith) in
    let c = counted plan j.number t (omega (arith, within, short)) p in
    let i = later plan t (bound plan + 1 - t) in
    let split : sim plan ≡ starts_before plan t ++ i.0 = ap (starts_before plan) (sym whole) ∙ i.1 in
    let all = each-job-starts-once plan j.number p in
    let parts = sum_by-append (λ (x : Start). cond {A = ℕ} (nat_eq x.number j.number) 1 0) (starts_before plan t) i.0 in
    let same = ap (starts_of j.number) split in
    subst (λ xs. IsSomeAnd (start_of xs j.number) (λ u. t ≤ u)) (sym split)
    (found-later j.number t (starts_before plan t) i.0 (omega (arith, c, none, p.once j.number)) (omega (arith, c, none, all, parts, same, p.once j.number)) i.2)
