-- What the steps of a state keep: it stays sound as jobs arrive, start and end. And the places at which the code puts and takes a job.
use Rattle.std.proofs.Common.{◌≡◌, ℕ, ◌+◌, ◌^◌, ◌≤◌, ◌<◌, Bool, true, false, cond, nat_eq, nat_lt, List, [], ◌∷◌, Some, None, All, IsSomeAnd, count_by, find, sum_by, filter, remove, insert, not, position, unwrap_or, length, one-add, refl, sym, ◌∙◌, ap, arith, subst, ⊎_elim}
use Rattle.std.specs.List.{position_or_len}
use Rattle.std.proofs.lemmas.List.Sums.{sum_by-cons, sum_by_push, prefix_len-le-length}
use Rattle.std.proofs.lemmas.List.Elements.{All-cons, All-head, All-nil, All-tail, All-push, All-filter}
use Rattle.std.proofs.lemmas.Bool.{cond_both, ltb-false, eqb-true, cases_Bool, cases_eq, eq-eqb, ne_eqb}
use Rattle.scenarios.specs.Job.{EffectiveJob, IsWithinLimits}
use Rattle.scenarios.specs.Limits.{procs_limit, seconds_end}
use Rattle.scenarios.specs.declared.placed.Placed.{Placed}
use Rattle.scenarios.specs.Placed.{real_end}
use Rattle.cluster_state.specs.State.{State, IsSound, arrived, busy, started, ended_until, without, placed, waiting_job, holders, free}

-- a state where nobody waits or runs is sound, and no processor is held, if its machine is within the limit
pub sound-empty : (s : State) → s.procs ≤ procs_limit → s.waiting ≡ [] → s.running ≡ [] → (busy s.running ≡ 0) × IsSound s
sound-empty s le none idle = (
  ap busy idle,
  record {
    limited = le;
    fits = omega (arith, ap busy idle);
    once = λ n. omega (arith, ap (count_by (λ (j : EffectiveJob). nat_eq j.number n)) none, ap (count_by (λ (r : Placed). nat_eq r.job.number n)) idle);
    waiting_fit = subst (All (λ (j : EffectiveJob). j.size ≤ s.procs)) (sym none) (All-nil (λ (j : EffectiveJob). j.size ≤ s.procs));
    waiting_limits = subst (All IsWithinLimits) (sym none) (All-nil IsWithinLimits);
    running_limits = subst (All (λ (r : Placed). IsWithinLimits r.job)) (sym idle) (All-nil (λ (r : Placed). IsWithinLimits r.job));
    started = subst (All (λ (r : Placed). r.start < seconds_end)) (sym idle) (All-nil (λ (r : Placed). r.start < seconds_end));
  },
)

-- a sum with one more running job is the job's own value and the sum over the others
pub sum_by-placed : (f : Placed → ℕ) (r : Placed) (xs : List Placed) → sum_by f (placed r xs) ≡ f r + sum_by f xs
sum_by-placed f r [] = omega arith
sum_by-placed f r (x ∷ xs) =
    cond_both (nat_lt r.job.number x.job.number) (r ∷ x ∷ xs) (x ∷ placed r xs) (λ l. sum_by f l ≡ f r + sum_by f (x ∷ xs))
    (λ _. sum_by-cons f r (x ∷ xs))
    (λ _. sum_by-cons f x (placed r xs) ∙ omega (arith, sum_by-placed f r xs, sum_by-cons f x xs))

-- what holds of one more running job and of all others holds of all with it
pub All-placed : (P : Placed → Type 0) (r : Placed) (xs : List Placed) → P r → All P xs → All P (placed r xs)
All-placed P r [] h a = All-cons P r [] h a
All-placed P r (x ∷ xs) h a =
    cond_both (nat_lt r.job.number x.job.number) (r ∷ x ∷ xs) (x ∷ placed r xs) (λ l. All P l)
    (λ _. All-cons P r (x ∷ xs) h a)
    (λ _. All-cons P x (placed r xs) (All-head P x xs a) (All-placed P r xs h (All-tail P x xs a)))

-- a sum without the job that a number finds, and the value of this job, are the sum over all
pub sum_by-without : (f : EffectiveJob → ℕ) (n : ℕ) (js : List EffectiveJob) (job : EffectiveJob) → find (λ (j : EffectiveJob). nat_eq j.number n) js ≡ Some job → sum_by f (without n js) + f job ≡ sum_by f js
sum_by-without f n [] job e = cc
sum_by-without f n (j ∷ js) job e =
    elim (nat_eq j.number n) as (λ b. cond b (Some j) (find (λ (j : EffectiveJob). nat_eq j.number n) js) ≡ Some job → sum_by f (cond b js (j ∷ without n js)) + f job ≡ sum_by f (j ∷ js)) [
      | true ↦ λ h. let same : j ≡ job = cc in let fs : f j ≡ f job = ap f same in omega (arith, sum_by-cons f j js, fs)
      | false ↦ λ h. omega (arith, sum_by-cons f j js, sum_by-cons f j (without n js), sum_by-without f n js job h)
    ] e

-- what holds of all jobs holds of those without the first of a number
pub All-without : (P : EffectiveJob → Type 0) (n : ℕ) (js : List EffectiveJob) → All P js → All P (without n js)
All-without P n [] a = a
All-without P n (j ∷ js) a =
    cond_both (nat_eq j.number n) js (j ∷ without n js) (λ l. All P l)
    (λ _. All-tail P j js a)
    (λ _. All-cons P j (without n js) (All-head P j js a) (All-without P n js (All-tail P j js a)))

-- what holds of all holds of the one that is found
pub All-find : {X : Type 0} (P : X → Type 0) (p : X → Bool) (xs : List X) (x : X) → find p xs ≡ Some x → All P xs → P x
All-find P p [] x e a = cc
All-find P p (y ∷ ys) x e a =
    elim (p y) as (λ b. cond b (Some y) (find p ys) ≡ Some x → P x) [
      | true ↦ λ h. let same : y ≡ x = cc in subst P same (All-head P y ys a)
      | false ↦ λ h. All-find P p ys x h (All-tail P y ys a)
    ] e

-- what is found passes the test
pub test-find : {X : Type 0} (p : X → Bool) (xs : List X) (x : X) → find p xs ≡ Some x → p x ≡ true
test-find p [] x e = cc
test-find p (y ∷ ys) x e =
    ⊎_elim
    (λ h. let same : y ≡ x = (let k : cond true (Some y) (find p ys) ≡ Some x = rw h at e in cc) in subst (λ z. p z ≡ true) same h)
    (λ h. test-find p ys x (rw h at e))
    (cases_Bool (p y))

-- a sum over those that pass a test is at most the sum over all
pub sum_by-filter-le : {X : Type 0} (f : X → ℕ) (p : X → Bool) (xs : List X) → sum_by f (filter p xs) ≤ sum_by f xs
sum_by-filter-le f p [] = omega arith
sum_by-filter-le f p (x ∷ xs) =
    cond_both (p x) (x ∷ filter p xs) (filter p xs) (λ l. sum_by f l ≤ sum_by f (x ∷ xs))
    (λ _. omega (arith, sum_by-cons f x xs, sum_by-cons f x (filter p xs), sum_by-filter-le f p xs))
    (λ _. omega (arith, sum_by-cons f x xs, sum_by-filter-le f p xs))

-- with one more holder of a number that nobody held, a number has no more than one holder, where it had no more
pub once-more : (a b : ℕ) (n m : ℕ) → (m ≡ n → a ≡ 0) → a ≤ 1 → b ≡ cond (nat_eq m n) 1 0 → a + b ≤ 1
once-more a b n m h l e =
    ⊎_elim
    (λ (s : m ≡ n). omega (arith, h s, rw (eq-eqb m n s) at e))
    (λ (s : m ≡ n → ⊥). omega (arith, rw (ne_eqb m n s) at e))
    (cases_eq m n)

-- a state stays sound as a job of a new number, within the machine and the limits, joins the queue
pub sound-arrived : (s : State) (job : EffectiveJob) → IsSound s → holders s job.number ≡ 0 → job.size ≤ s.procs → IsWithinLimits job → IsSound (arrived s job)
sound-arrived s job h absent fits limits = record {
  limited = h.limited;
  fits = h.fits;
  once = λ n.
      let e = sum_by_push (λ (j : EffectiveJob). cond (nat_eq j.number n) 1 0) s.waiting job in
      let o = once-more (holders s n) (cond (nat_eq job.number n) 1 0) n job.number (λ same. subst (λ m. holders s m ≡ 0) same absent) (h.once n) refl in
      omega (arith, e, o);
  waiting_fit = All-push (λ (j : EffectiveJob). j.size ≤ s.procs) s.waiting job h.waiting_fit fits;
  waiting_limits = All-push IsWithinLimits s.waiting job h.waiting_limits limits;
  running_limits = h.running_limits;
  started = h.started;
}

-- a state stays sound as a waiting job that fits starts
pub sound-started : (s : State) (job : EffectiveJob) (now : ℕ) → IsSound s → waiting_job s job.number ≡ Some job → job.size ≤ free s → now < 2 ^ 49 → IsSound (started s job now)
sound-started s job now h found fits early =
    let r : Placed = record { job = job; start = now } in
    record {
      limited = h.limited;
      fits = omega (arith, h.fits, sum_by-placed (λ r. r.job.size) r s.running);
      once = λ n.
          let e = sum_by-placed (λ r. cond (nat_eq r.job.number n) 1 0) r s.running in
          let o = sum_by-without (λ (j : EffectiveJob). cond (nat_eq j.number n) 1 0) job.number s.waiting job found in
          omega (arith, e, o, h.once n);
      waiting_fit = All-without (λ (j : EffectiveJob). j.size ≤ s.procs) job.number s.waiting h.waiting_fit;
      waiting_limits = All-without IsWithinLimits job.number s.waiting h.waiting_limits;
      running_limits = All-placed (λ r. IsWithinLimits r.job) r s.running (All-find IsWithinLimits (λ (j : EffectiveJob). nat_eq j.number job.number) s.waiting job found h.waiting_limits) h.running_limits;
      started = All-placed (λ r. r.start < 2 ^ 49) r s.running early h.started;
    }

-- a job that a number finds and that may start has this number and fits, and the state stays sound as it starts
pub sound-found : (s : State) (job : EffectiveJob) (n now : ℕ) → IsSound s → waiting_job s n ≡ Some job → IsSomeAnd (waiting_job s n) (λ (j : EffectiveJob). j.size ≤ free s) → now < 2 ^ 49
    → (job.number ≡ n) × (job.size ≤ free s) × IsSound (started s job now)
sound-found s job n now h found fits early =
    let p : EffectiveJob → Bool = λ j. nat_eq j.number n in
    let same : job.number ≡ n = eqb-true job.number n (test-find p s.waiting job found) in
    let fit : job.size ≤ free s = rw found at fits in
    (same, fit, sound-started s job now h (subst (λ m. waiting_job s m ≡ Some job) (sym same) found) fit early)

-- a state stays sound as those leave that end by a second
pub sound-ended : (s : State) (t : ℕ) → IsSound s → IsSound (ended_until s t)
sound-ended s t h =
    let keeps : Placed → Bool = λ r. nat_lt t (real_end r) in
    record {
      limited = h.limited;
      fits = omega (arith, h.fits, sum_by-filter-le (λ (r : Placed). r.job.size) keeps s.running);
      once = λ n. omega (arith, h.once n, sum_by-filter-le (λ (r : Placed). cond (nat_eq r.job.number n) 1 0) keeps s.running);
      waiting_fit = h.waiting_fit;
      waiting_limits = h.waiting_limits;
      running_limits = All-filter keeps (λ r. IsWithinLimits r.job) s.running h.running_limits;
      started = All-filter keeps (λ r. r.start < 2 ^ 49) s.running h.started;
    }

pub without-at : (n : ℕ) (js : List EffectiveJob) → without n js ≡ remove js (position_or_len (λ (j : EffectiveJob). nat_eq j.number n) js)
without-at n [] = refl
without-at n (j ∷ js) =
    elim (nat_eq j.number n) as (λ b. cond b js (j ∷ without n js) ≡ remove (j ∷ js) (cond (not b) (1 + position_or_len (λ (j : EffectiveJob). nat_eq j.number n) js) 0)) [
      | true ↦ refl
      | false ↦ rw one-add (ap (λ l. j ∷ l) (without-at n js))
    ]

-- one more running job is inserted before the first of a greater number, or behind all where there is none
pub placed-at : (r : Placed) (rs : List Placed) → placed r rs ≡ insert rs (position_or_len (λ (x : Placed). nat_lt r.job.number x.job.number) rs) r
placed-at r [] = refl
placed-at r (x ∷ rs) =
    elim (nat_lt r.job.number x.job.number) as (λ b. cond b (r ∷ x ∷ rs) (x ∷ placed r rs) ≡ insert (x ∷ rs) (cond (not b) (1 + position_or_len (λ (x : Placed). nat_lt r.job.number x.job.number) rs) 0) r) [
      | true ↦ refl
      | false ↦ rw one-add (ap (λ l. x ∷ l) (placed-at r rs))
    ]

pub remove_past : {X : Type 0} (xs : List X) → remove xs (length xs) ≡ xs
remove_past [] = refl
remove_past (x ∷ xs) = ap (λ l. x ∷ l) (remove_past xs)

pub position-is : {X : Type 0} (p : X → Bool) (xs : List X) → unwrap_or (position p xs) (length xs) ≡ position_or_len p xs
position-is p xs =
    cond_both (nat_lt (position_or_len p xs) (length xs)) (Some (position_or_len p xs)) None (λ o. unwrap_or o (length xs) ≡ position_or_len p xs)
    (λ _. refl)
    (λ h. omega (arith, ltb-false (position_or_len p xs) (length xs) h, prefix_len-le-length (λ x. not (p x)) xs))

-- without a number that has no place, all jobs are left
pub without-none : (n : ℕ) (js : List EffectiveJob) → position (λ (j : EffectiveJob). nat_eq j.number n) js ≡ None → without n js ≡ js
without-none n js e =
    without-at n js ∙ ap (λ i. remove js i) (sym (position-is (λ (j : EffectiveJob). nat_eq j.number n) js) ∙ ap (λ o. unwrap_or o (length js)) e) ∙ remove_past js

-- without a number, the jobs are those without the one at its first place
pub without-some : (n i : ℕ) (js : List EffectiveJob) → position (λ (j : EffectiveJob). nat_eq j.number n) js ≡ Some i → without n js ≡ remove js i
without-some n i js e =
    without-at n js ∙ ap (λ i. remove js i) (sym (position-is (λ (j : EffectiveJob). nat_eq j.number n) js) ∙ ap (λ o. unwrap_or o (length js)) e)

-- one more running job is inserted at the first place of a greater number, or behind all where none is found
pub placed-position : (r : Placed) (rs : List Placed) → placed r rs ≡ insert rs (unwrap_or (position (λ (x : Placed). nat_lt r.job.number x.job.number) rs) (length rs)) r
placed-position r rs = placed-at r rs ∙ ap (λ i. insert rs i r) (sym (position-is (λ (x : Placed). nat_lt r.job.number x.job.number) rs))
