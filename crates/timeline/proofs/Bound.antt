-- Who waits or runs has work left, and a machine with work left works: each second takes a second off each running job,
-- so by the bound all jobs have ended.
use Rattle.std.proofs.Common.{◌≡◌, ℕ, zero, suc, ◌+◌, ◌-◌, ◌^◌, ◌≤◌, ◌<◌, Bool, true, false, cond, not, nat_eq, nat_lt, List, [], ◌∷◌, length, max, Some, All, sum_by, filter, refl, sym, ◌∙◌, ap, arith, subst, ⊎_elim}
use Rattle.std.proofs.lemmas.List.Sums.{sum_by-cons, sum_by-append, sum_by-le-sum_by}
use Rattle.std.proofs.lemmas.List.Elements.{All-head, All-tail, All-nil, All-cons, All-weaker}
use Rattle.std.proofs.lemmas.Bool.{cond-true, cond-false, cases_eq, cases_lt, eq-eqb, ne_eqb, lt-ltb, le-ltb}
use Rattle.scenarios.specs.Job.{EffectiveJob, IsWithinLimits}
use Rattle.scenarios.specs.declared.placed.Placed.{Placed}
use Rattle.scenarios.specs.Placed.{real_end}
use Rattle.cluster_state.specs.State.{State, IsSound, empty, started}
use Rattle.cluster_state.proofs.Lemmas.{sum_by-placed, sum_by-without}
use Rattle.easy_rule.specs.Rule.{next, state_after}
use Rattle.easy_rule.proofs.Lemmas.{next-found, decided-keeps, decided-done, nobody-waits}
use Rattle.scenarios.specs.Plan.{Plan}
use Rattle.easy_rule.specs.Simulation.{last_submit, bound, before, second, submitted, ready}
use Rattle.scenarios.specs.SoundPlan.{IsPlan}
use Rattle.timeline.specs.Laws.{AllHaveEnded, AllEndByTheBound}
use Rattle.timeline.proofs.Short.{short-plan}
use Rattle.timeline.proofs.Facts.{IsRun, run-started, run-ready, run-before}
use Rattle.timeline.proofs.Rest.{submits-by, empty-is, rests}

abbrev left_from : ℕ → Placed → ℕ
left_from t r = suc (real_end r) - t

abbrev to_come : ℕ → EffectiveJob → ℕ
to_come t j = cond (nat_lt j.submit t) 0 j.length

abbrev load : Plan → State → ℕ → ℕ
load plan s t = sum_by (λ j. j.length) s.waiting + sum_by (left_from t) s.running + sum_by (to_come t) plan.jobs

load-ended : (t : ℕ) (rs : List Placed) → All (λ r. t ≤ real_end r) rs → sum_by (left_from (suc t)) (filter (λ r. not (nat_eq (real_end r) t)) rs) + length rs ≤ sum_by (left_from t) rs
load-ended t [] a = omega arith
load-ended t (r ∷ rs) a =
    let l : t ≤ real_end r = All-head (λ r. t ≤ real_end r) r rs a in
    let i = load-ended t rs (All-tail (λ r. t ≤ real_end r) r rs a) in
    let e = sum_by-cons (left_from t) r rs in
    ⊎_elim
    (λ (h : real_end r ≡ t). rw (eq-eqb (real_end r) t h) (omega (arith, l, i, e, h)))
    (λ (h : real_end r ≡ t → ⊥).
    let f = sum_by-cons (left_from (suc t)) r (filter (λ r. not (nat_eq (real_end r) t)) rs) in
    rw (ne_eqb (real_end r) t h) (omega (arith, l, i, e, f)))
    (cases_eq (real_end r) t)

load-arrived : (t : ℕ) (js : List EffectiveJob) → sum_by (λ j. j.length) (filter (λ j. nat_eq j.submit t) js) + sum_by (to_come (suc t)) js ≤ sum_by (to_come t) js
load-arrived t [] = omega arith
load-arrived t (j ∷ js) =
    let i = load-arrived t js in
    let e = sum_by-cons (to_come t) j js in
    let f = sum_by-cons (to_come (suc t)) j js in
    let k = sum_by-cons (λ (j : EffectiveJob). j.length) j (filter (λ j. nat_eq j.submit t) js) in
    ⊎_elim
    (λ (l : j.submit < t).
    let x = cond-true {A = ℕ} (nat_lt j.submit t) 0 j.length (lt-ltb j.submit t l) in
    let y = cond-true {A = ℕ} (nat_lt j.submit (suc t)) 0 j.length (lt-ltb j.submit (suc t) (omega arith)) in
    rw (ne_eqb j.submit t (λ h. omega arith)) (omega (arith, i, e, f, x, y)))
    (λ (l : t ≤ j.submit).
    let x = cond-false {A = ℕ} (nat_lt j.submit t) 0 j.length (le-ltb j.submit t l) in
    ⊎_elim
    (λ (h : j.submit ≡ t).
    let y = cond-true {A = ℕ} (nat_lt j.submit (suc t)) 0 j.length (lt-ltb j.submit (suc t) (omega arith)) in
    rw (eq-eqb j.submit t h) (omega (arith, i, e, f, k, x, y)))
    (λ (h : j.submit ≡ t → ⊥).
    let y = cond-false {A = ℕ} (nat_lt j.submit (suc t)) 0 j.length (le-ltb j.submit (suc t) (omega arith)) in
    rw (ne_eqb j.submit t h) (omega (arith, i, e, f, x, y)))
    (cases_eq j.submit t))
    (cases_lt j.submit t)

load-ready : (plan : Plan) (s : State) (t : ℕ) → All (λ r. t ≤ real_end r) s.running → load plan (ready plan s t) (suc t) + length s.running ≤ load plan s t
load-ready plan s t a =
    let e = sum_by-append (λ (j : EffectiveJob). j.length) s.waiting (submitted plan t) in
    omega (arith, e, load-ended t s.running a, load-arrived t plan.jobs)

load-started : (plan : Plan) (s : State) (t : ℕ) (job : EffectiveJob) → IsSound s → next s t ≡ Some job → load plan (started s job t) (suc t) ≡ load plan s (suc t)
load-started plan s t job h e =
    let x : Placed = record { job = job; start = t } in
    let f = sum_by-without (λ (j : EffectiveJob). j.length) job.number s.waiting job (next-found s t job h e) in
    let k = sum_by-placed (left_from (suc t)) x s.running in
    let w : left_from (suc t) x ≡ job.length = omega arith in
    omega (arith, f, k, w)

load-second : (plan : Plan) (s : State) (t : ℕ) → t < 2 ^ 49 → IsPlan plan → IsRun plan s t → load plan (second plan s t) (suc t) + length s.running ≤ load plan s t
load-second plan s t small p r =
    (decided-keeps (λ z. IsRun plan z (suc t) × (load plan z (suc t) + length s.running ≤ load plan s t)) t
    (λ z job e h. (run-started plan t small z job e h.0, (let k = load-started plan z t job h.0.sound e in let l = h.1 in omega (arith, k, l))))
    (length (ready plan s t).waiting) (ready plan s t) (run-ready plan s t p r, load-ready plan s t r.lasting)).1

queue-empties : (plan : Plan) (t : ℕ) → IsSound (before plan t) → (before plan t).running ≡ [] → (before plan t).waiting ≡ []
unfolding before
queue-empties plan zero h e = refl
queue-empties plan (suc t) h e =
    let s = ready plan (before plan t) t in
    nobody-waits (state_after s t) t (state_after s t).waiting h.waiting_fit e (decided-done (length s.waiting) s t (omega arith))

none-to-come : (t : ℕ) (js : List EffectiveJob) → All (λ j. j.submit < t) js → sum_by (to_come t) js ≡ 0
none-to-come t [] a = refl
none-to-come t (j ∷ js) a =
    let l = All-head (λ (j : EffectiveJob). j.submit < t) j js a in
    let x = cond-true {A = ℕ} (nat_lt j.submit t) 0 j.length (lt-ltb j.submit t l) in
    omega (arith, x, sum_by-cons (to_come t) j js, none-to-come t js (All-tail (λ (j : EffectiveJob). j.submit < t) j js a))

to-come-le : (t : ℕ) (js : List EffectiveJob) → sum_by (to_come t) js ≤ sum_by (λ j. j.length) js
to-come-le t js = sum_by-le-sum_by (to_come t) (λ (j : EffectiveJob). j.length) js (λ j. one (nat_lt j.submit t) j.length)
  where
    one : (b : Bool) (n : ℕ) → cond b 0 n ≤ n
    one true n = omega arith
    one false n = omega arith

load-before : (plan : Plan) (t : ℕ) → t ≤ 2 ^ 49 → IsPlan plan → load plan (before plan t) t ≤ suc (bound plan) - max t (suc (last_submit plan.jobs))
unfolding before
load-before plan zero small p = omega (arith, to-come-le 0 plan.jobs)
load-before plan (suc t) small p =
    let s = before plan t in
    let run = run-before plan t (omega arith) p in
    let i = load-before plan t (omega arith) p in
    let m = load-second plan s t (omega arith) p run in
    go s.running refl i m run
  where
    go : (rs : List Placed) → (before plan t).running ≡ rs → load plan (before plan t) t ≤ suc (bound plan) - max t (suc (last_submit plan.jobs))
        → load plan (second plan (before plan t) t) (suc t) + length (before plan t).running ≤ load plan (before plan t) t → IsRun plan (before plan t) t
        → load plan (second plan (before plan t) t) (suc t) ≤ suc (bound plan) - max (suc t) (suc (last_submit plan.jobs))
    go (r ∷ rs) e i m run = let n = ap length e in omega (arith, i, m, n)
    go [] e i m run =
        let w = ap (sum_by (λ (j : EffectiveJob). j.length)) (queue-empties plan t run.sound e) in
        let x = ap (sum_by (left_from t)) e in
        ⊎_elim
        (λ (l : t < suc (last_submit plan.jobs)). omega (arith, i, m, l))
        (λ (l : suc (last_submit plan.jobs) ≤ t).
        let n = none-to-come t plan.jobs (All-weaker (λ (j : EffectiveJob). j.submit ≤ last_submit plan.jobs) (λ (j : EffectiveJob). j.submit < t) (λ j k. omega arith) plan.jobs (submits-by plan.jobs)) in
        omega (arith, m, w, x, n))
        (cases_lt t (suc (last_submit plan.jobs)))

All-sum : {X : Type 0} (f : X → ℕ) (xs : List X) → All (λ x. f x ≤ sum_by f xs) xs
All-sum f [] = All-nil (λ x. f x ≤ 0)
All-sum f (x ∷ xs) =
    let e = sum_by-cons f x xs in
    All-cons (λ y. f y ≤ sum_by f (x ∷ xs)) x xs (omega (arith, e)) (All-weaker (λ y. f y ≤ sum_by f xs) (λ y. f y ≤ sum_by f (x ∷ xs)) (λ y l. omega (arith, e, l)) xs (All-sum f xs))

no-sum : {X : Type 0} (f : X → ℕ) (xs : List X) → All (λ x. 1 ≤ f x) xs → sum_by f xs ≤ 0 → xs ≡ []
no-sum f [] a l = refl
no-sum f (x ∷ xs) a l = absurd (omega (arith, sum_by-cons f x xs, All-head (λ x. 1 ≤ f x) x xs a, l))

ended-at : (plan : Plan) (t : ℕ) → t ≤ 2 ^ 49 → IsPlan plan → bound plan < t → before plan t ≡ empty plan.procs plan.order
ended-at plan t small p past =
    let s = before plan t in
    let run = run-before plan t small p in
    let l = load-before plan t small p in
    let none-waits : s.waiting ≡ [] = no-sum (λ (j : EffectiveJob). j.length) s.waiting (All-weaker IsWithinLimits (λ (j : EffectiveJob). 1 ≤ j.length) (λ j h. h.lasts) s.waiting run.sound.waiting_limits) (omega (arith, l, past)) in
    let none-runs : s.running ≡ [] = no-sum (left_from t) s.running (All-weaker (λ r. t ≤ real_end r) (λ r. 1 ≤ left_from t r) (λ r h. omega arith) s.running run.lasting) (omega (arith, l, past)) in
    empty-is s none-waits none-runs ∙ ap (λ m. empty m s.order) run.procs ∙ ap (λ o. empty plan.procs o) run.order

-- after the bound nobody waits or runs
pub all-have-ended : AllHaveEnded
all-have-ended plan t p past =
    let b = suc (bound plan) in
    let n = t - b in
    let whole : b + n ≡ t = omega arith in
    let at-b : before plan b ≡ empty plan.procs plan.order = ended-at plan b (let k = short-plan plan p in omega (arith, k)) p (omega arith) in
    ap (before plan) (sym whole) ∙ (rests plan b n plan.procs plan.order (omega arith) at-b).0

-- who runs before a second ends by the bound
pub all-end-by-the-bound : AllEndByTheBound
all-end-by-the-bound plan t p =
    ⊎_elim
    (λ (l : bound plan < t). subst (λ (z : State). All (λ r. real_end r ≤ bound plan) z.running) (sym (all-have-ended plan t p l)) (All-nil (λ r. real_end r ≤ bound plan)))
    (λ (l : t ≤ bound plan).
    let small : t ≤ 2 ^ 49 = (let k = short-plan plan p in omega (arith, k, l)) in
    let s = before plan t in
    let run = run-before plan t small p in
    let k = load-before plan t small p in
    let each = All-sum (left_from t) s.running in
    λ i d m. let a = each i d m in let b = run.lasting i d m in omega (arith, a, b, k, l))
    (cases_lt (bound plan) t)
