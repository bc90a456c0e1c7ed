-- What is true of the state before each second: it is sound, nobody runs past his end, and its numbers are those of jobs that have come.
use Rattle.std.proofs.Common.{◌≡◌, ℕ, zero, suc, ◌+◌, ◌≤◌, ◌<◌, Bool, true, false, cond, not, ◌&&◌, nat_eq, nat_lt, List, [], ◌∷◌, ◌++◌, add-one, length, take, get_or, Some, All, ◌^◌, count_by, sum_by, filter, refl, sym, ◌∙◌, ap, arith, subst, ⊎_elim}
use Rattle.std.proofs.lemmas.List.Sums.{sum_by-cons, sum_by_push, sum_by-append, sum_by-take-le, sum_by-le-sum_by}
use Rattle.std.proofs.lemmas.List.{take_all}
use Rattle.std.proofs.lemmas.List.Elements.{All-head, All-tail, All-nil, All-cons, All-append, All-filter, All-take, filter_more}
use Rattle.std.proofs.lemmas.Bool.{cond-true, cond-false, cases_Bool, cases_eq, ne_eqb, eq-eqb, lt-ltb, le-ltb, cases_lt}
use Rattle.scenarios.specs.Job.{EffectiveJob, IsWithinLimits}
use Rattle.scenarios.specs.declared.placed.Placed.{Placed}
use Rattle.scenarios.specs.Placed.{real_end}
use Rattle.cluster_state.specs.State.{State, IsSound, holders, started, ended_until}
use Rattle.cluster_state.proofs.Lemmas.{sound-started, sum_by-filter-le, sum_by-placed, sum_by-without, All-placed, All-find}
use Rattle.easy_rule.specs.Rule.{next}
use Rattle.easy_rule.proofs.Lemmas.{next-found, next-fits, decided-keeps}
use Rattle.scenarios.specs.Plan.{Plan}
use Rattle.easy_rule.specs.Simulation.{starts_before, starts_in, before, second, submitted, ready, ended, joined}
use Rattle.scenarios.specs.SoundPlan.{IsPlan}

abbrev pub known : Plan → ℕ → ℕ → ℕ
known plan t n = count_by (λ j. nat_eq j.number n && nat_lt j.submit t) plan.jobs

-- what is true of a state before second t: it is sound, its machine and order are the plan's, its running jobs end at t or later,
-- and no number is held more often than by jobs that came before t
pub record IsRun (plan : Plan) (s : State) (t : ℕ) : Type 0 where
  pub sound : IsSound s
  pub procs : s.procs ≡ plan.procs
  pub order : s.order ≡ plan.order
  pub lasting : All (λ r. t ≤ real_end r) s.running
  pub held : (n : ℕ) → holders s n ≤ known plan t n

pub filters-agree : {X : Type 0} (p q : X → Bool) (P : X → Type 0) (xs : List X) → ((x : X) → P x → p x ≡ q x) → All P xs → filter p xs ≡ filter q xs
filters-agree p q P [] h a = refl
filters-agree p q P (x ∷ xs) h a =
    ap (λ b. cond b (x ∷ filter p xs) (filter p xs)) (h x (All-head P x xs a)) ∙ ap (λ l. cond (q x) (x ∷ l) l) (filters-agree p q P xs h (All-tail P x xs a))

-- where all running jobs end at t or later, those that end by t are those that end at t
pub ended-is : (s : State) (t : ℕ) → All (λ r. t ≤ real_end r) s.running → ended_until s t ≡ ended s t
ended-is s t a =
    ap (λ (rs : List Placed). let z : State = record { procs = s.procs; order = s.order; waiting = s.waiting; running = rs } in z)
    (filters-agree (λ r. nat_lt t (real_end r)) (λ r. not (nat_eq (real_end r) t)) (λ r. t ≤ real_end r) s.running
    (λ r l. ⊎_elim
    (λ (e : real_end r ≡ t). le-ltb t (real_end r) (omega arith) ∙ ap not (sym (eq-eqb (real_end r) t e)))
    (λ (e : real_end r ≡ t → ⊥). lt-ltb t (real_end r) (omega arith) ∙ ap not (sym (ne_eqb (real_end r) t e)))
    (cases_eq (real_end r) t))
    a)

-- to count in a filtered list is to count those that pass both tests
pub count-filter : {X : Type 0} (p q : X → Bool) (xs : List X) → count_by p (filter q xs) ≡ count_by (λ x. p x && q x) xs
count-filter p q [] = refl
count-filter p q (x ∷ xs) =
    let e = sum_by-cons (λ z. cond (p z && q z) 1 0) x xs in
    let i = count-filter p q xs in
    ⊎_elim
    (λ (h : q x ≡ true).
    let m = ap (λ l. count_by p l) (cond-true (q x) (x ∷ filter q xs) (filter q xs) h) in
    let f = sum_by-cons (λ z. cond (p z) 1 0) x (filter q xs) in
    let k = ap (λ b. cond {A = ℕ} b 1 0) (ap (λ b. p x && b) h ∙ and_true (p x)) in
    omega (arith, e, i, m, f, k))
    (λ (h : q x ≡ false).
    let m = ap (λ l. count_by p l) (cond-false (q x) (x ∷ filter q xs) (filter q xs) h) in
    let k = ap (λ b. cond {A = ℕ} b 1 0) (ap (λ b. p x && b) h ∙ and_false (p x)) in
    omega (arith, e, i, m, k))
    (cases_Bool (q x))
  where
    and_true : (b : Bool) → (b && true) ≡ b
    and_true true = refl
    and_true false = refl

    and_false : (b : Bool) → (b && false) ≡ false
    and_false true = refl
    and_false false = refl

pub sums-le : {X : Type 0} (f g h : X → ℕ) (xs : List X) → ((x : X) → f x + g x ≤ h x) → sum_by f xs + sum_by g xs ≤ sum_by h xs
sums-le f g h [] l = omega arith
sums-le f g h (x ∷ xs) l = omega (arith, sum_by-cons f x xs, sum_by-cons g x xs, sum_by-cons h x xs, l x, sums-le f g h xs l)

pub known-more : (js : List EffectiveJob) (t n k : ℕ) → count_by (λ (j : EffectiveJob). nat_eq j.number n && nat_lt j.submit t) js + count_by (λ (j : EffectiveJob). nat_eq j.number n) (filter (λ (j : EffectiveJob). nat_eq j.submit t) (take k js)) ≤ count_by (λ (j : EffectiveJob). nat_eq j.number n && nat_lt j.submit (suc t)) js
known-more js t n k =
    let f : EffectiveJob → ℕ = λ j. cond (nat_eq j.number n && nat_lt j.submit t) 1 0 in
    let g : EffectiveJob → ℕ = λ j. cond (nat_eq j.number n && nat_eq j.submit t) 1 0 in
    let h : EffectiveJob → ℕ = λ j. cond (nat_eq j.number n && nat_lt j.submit (suc t)) 1 0 in
    omega (
      arith,
      count-filter (λ (j : EffectiveJob). nat_eq j.number n) (λ (j : EffectiveJob). nat_eq j.submit t) (take k js),
      sum_by-take-le g js k,
      sums-le f g h js (λ j. one (nat_eq j.number n) j.submit t),
    )
  where
    one : (b : Bool) (u t : ℕ) → cond {A = ℕ} (b && nat_lt u t) 1 0 + cond {A = ℕ} (b && nat_eq u t) 1 0 ≤ cond {A = ℕ} (b && nat_lt u (suc t)) 1 0
    one false u t = omega arith
    one true u t =
        ⊎_elim
        (λ (l : u < t). rw (lt-ltb u t l, ne_eqb u t (λ e. omega arith), lt-ltb u (suc t) (omega arith)) (omega arith))
        (λ (l : t ≤ u). ⊎_elim
        (λ (e : u ≡ t). rw (le-ltb u t l, eq-eqb u t e, lt-ltb u (suc t) (omega arith)) (omega arith))
        (λ (e : u ≡ t → ⊥). rw (le-ltb u t l, ne_eqb u t e) (omega arith))
        (cases_eq u t))
        (cases_lt u t)

pub known-le : (plan : Plan) (t n : ℕ) → known plan t n ≤ count_by (λ j. nat_eq j.number n) plan.jobs
known-le plan t n = sum_by-le-sum_by (λ (j : EffectiveJob). cond (nat_eq j.number n && nat_lt j.submit t) 1 0) (λ (j : EffectiveJob). cond (nat_eq j.number n) 1 0) plan.jobs (λ j. one (nat_eq j.number n) (nat_lt j.submit t))
  where
    one : (b d : Bool) → cond {A = ℕ} (b && d) 1 0 ≤ cond {A = ℕ} b 1 0
    one true true = omega arith
    one true false = omega arith
    one false d = omega arith

pub sound-joined : (plan : Plan) (s : State) (t k : ℕ) → IsPlan plan → IsRun plan s t → IsSound (joined (ended s t) (filter (λ j. nat_eq j.submit t) (take k plan.jobs)))
sound-joined plan s t k p r =
    let js = filter (λ (j : EffectiveJob). nat_eq j.submit t) (take k plan.jobs) in
    let keeps : Placed → Bool = λ x. not (nat_eq (real_end x) t) in
    let few : (n : ℕ) → holders (joined (ended s t) js) n ≤ known plan (suc t) n = (λ n.
    omega (arith, sum_by-append (λ (j : EffectiveJob). cond (nat_eq j.number n) 1 0) s.waiting js, sum_by-filter-le (λ (x : Placed). cond (nat_eq x.job.number n) 1 0) keeps s.running, r.held n, known-more plan.jobs t n k)) in
    record {
      limited = r.sound.limited;
      fits = omega (arith, r.sound.fits, sum_by-filter-le (λ (x : Placed). x.job.size) keeps s.running);
      once = λ n. omega (arith, few n, known-le plan (suc t) n, p.once n);
      waiting_fit = All-append (λ (j : EffectiveJob). j.size ≤ s.procs) s.waiting js r.sound.waiting_fit (All-filter (λ (j : EffectiveJob). nat_eq j.submit t) (λ (j : EffectiveJob). j.size ≤ s.procs) (take k plan.jobs) (All-take (λ (j : EffectiveJob). j.size ≤ s.procs) k plan.jobs (subst (λ m. All (λ (j : EffectiveJob). j.size ≤ m) plan.jobs) (sym r.procs) p.sizes)));
      waiting_limits = All-append IsWithinLimits s.waiting js r.sound.waiting_limits (All-filter (λ (j : EffectiveJob). nat_eq j.submit t) IsWithinLimits (take k plan.jobs) (All-take IsWithinLimits k plan.jobs p.limits));
      running_limits = All-filter keeps (λ x. IsWithinLimits x.job) s.running r.sound.running_limits;
      started = All-filter keeps (λ x. x.start < 2 ^ 49) s.running r.sound.started;
    }

lasting-more : (t : ℕ) (rs : List Placed) → All (λ r. t ≤ real_end r) rs → All (λ r. suc t ≤ real_end r) (filter (λ r. not (nat_eq (real_end r) t)) rs)
lasting-more t [] a = All-nil (λ r. suc t ≤ real_end r)
lasting-more t (r ∷ rs) a =
    let l : t ≤ real_end r = All-head (λ r. t ≤ real_end r) r rs a in
    let rest = lasting-more t rs (All-tail (λ r. t ≤ real_end r) r rs a) in
    ⊎_elim
    (λ (e : real_end r ≡ t). rw (eq-eqb (real_end r) t e) rest)
    (λ (e : real_end r ≡ t → ⊥). rw (ne_eqb (real_end r) t e) (All-cons (λ r. suc t ≤ real_end r) r _ (omega arith) rest))
    (cases_eq (real_end r) t)

-- what is true of a state before t is true before t + 1 of the state after the ends and arrivals of t
pub run-ready : (plan : Plan) (s : State) (t : ℕ) → IsPlan plan → IsRun plan s t → IsRun plan (ready plan s t) (suc t)
run-ready plan s t p r =
    let k = length plan.jobs in
    let whole : take k plan.jobs ≡ plan.jobs = take_all k plan.jobs (omega arith) in
    let js = submitted plan t in
    let keeps : Placed → Bool = λ x. not (nat_eq (real_end x) t) in
    record {
      sound = subst (λ l. IsSound (joined (ended s t) (filter (λ (j : EffectiveJob). nat_eq j.submit t) l))) whole (sound-joined plan s t k p r);
      procs = r.procs;
      order = r.order;
      lasting = lasting-more t s.running r.lasting;
      held = λ n.
          let m = subst (λ l. known plan t n + count_by (λ (j : EffectiveJob). nat_eq j.number n) (filter (λ (j : EffectiveJob). nat_eq j.submit t) l) ≤ known plan (suc t) n) whole (known-more plan.jobs t n k) in
          omega (arith, sum_by-append (λ (j : EffectiveJob). cond (nat_eq j.number n) 1 0) s.waiting js, sum_by-filter-le (λ (x : Placed). cond (nat_eq x.job.number n) 1 0) keeps s.running, r.held n, m);
    }

-- what is true of a state before t + 1 stays true when the next job is started at t
pub run-started : (plan : Plan) (t : ℕ) → t < 2 ^ 49 → (s : State) (job : EffectiveJob) → next s t ≡ Some job → IsRun plan s (suc t) → IsRun plan (started s job t) (suc t)
run-started plan t small s job e r =
    let found = next-found s t job r.sound e in
    let x : Placed = record { job = job; start = t } in
    let limits : IsWithinLimits job = All-find IsWithinLimits (λ (j : EffectiveJob). nat_eq j.number job.number) s.waiting job found r.sound.waiting_limits in
    record {
      sound = sound-started s job t r.sound found (next-fits s t job e) small;
      procs = r.procs;
      order = r.order;
      lasting = All-placed (λ r. suc t ≤ real_end r) x s.running (omega (arith, limits.lasts)) r.lasting;
      held = λ n. omega (arith, r.held n, sum_by-placed (λ (y : Placed). cond (nat_eq y.job.number n) 1 0) x s.running, sum_by-without (λ (j : EffectiveJob). cond (nat_eq j.number n) 1 0) job.number s.waiting job found);
    }

pub run-second : (plan : Plan) (s : State) (t : ℕ) → t < 2 ^ 49 → IsPlan plan → IsRun plan s t → IsRun plan (second plan s t) (suc t)
run-second plan s t small p r = decided-keeps (λ z. IsRun plan z (suc t)) t (run-started plan t small) (length (ready plan s t).waiting) (ready plan s t) (run-ready plan s t p r)

-- all this is true of the state before each second up to 2^49
pub run-before : (plan : Plan) (t : ℕ) → t ≤ 2 ^ 49 → IsPlan plan → IsRun plan (before plan t) t
unfolding before
run-before plan zero small p = record {
  sound = record {
    limited = p.limited;
    fits = omega arith;
    once = λ n. omega arith;
    waiting_fit = All-nil (λ (j : EffectiveJob). j.size ≤ plan.procs);
    waiting_limits = All-nil IsWithinLimits;
    running_limits = All-nil (λ x. IsWithinLimits x.job);
    started = All-nil (λ x. x.start < 2 ^ 49);
  };
  procs = refl;
  order = refl;
  lasting = All-nil (λ r. 0 ≤ real_end r);
  held = λ n. omega arith;
}
run-before plan (suc t) small p = run-second plan (before plan t) t (omega arith) p (run-before plan t (omega arith) p)

pub absent-next : (s : State) (t i : ℕ) (d : EffectiveJob) (js : List EffectiveJob) → i < length js → (get_or js i d).submit ≡ t → IsSound (joined s (filter (λ (j : EffectiveJob). nat_eq j.submit t) (take (i + 1) js)))
    → holders (joined s (filter (λ (j : EffectiveJob). nat_eq j.submit t) (take i js))) (get_or js i d).number ≡ 0
absent-next s t i d js l here h =
    let job = get_or js i d in
    let q : EffectiveJob → Bool = λ j. nat_eq j.submit t in
    let p : EffectiveJob → ℕ = λ j. cond (nat_eq j.number job.number) 1 0 in
    let more : filter q (take (i + 1) js) ≡ filter q (take i js) ++ job ∷ [] =
    filter_more q js i d l ∙ ap (λ o. filter q (take i js) ++ o) (cond-true (q job) (job ∷ []) [] (eq-eqb job.submit t here)) in
    let once = (subst (λ l. IsSound (joined s l)) more h).once job.number in
    let one = cond-true {A = ℕ} (nat_eq job.number job.number) 1 0 (eq-eqb job.number job.number refl) in
    omega (arith, once, one, sum_by-append p s.waiting (filter q (take i js)), sum_by-append p s.waiting (filter q (take i js) ++ job ∷ []), sum_by_push p (filter q (take i js)) job)

-- the state before t + 1 is what second t leaves of the state before t
pub before-more : (plan : Plan) (t : ℕ) → before plan (t + 1) ≡ second plan (before plan t) t
unfolding before
before-more plan t = rw add-one

-- the starts before t + 1 are those before t, and then those of t
pub starts_before-more : (plan : Plan) (t : ℕ) → starts_before plan (t + 1) ≡ starts_before plan t ++ starts_in plan t
unfolding starts_before
starts_before-more plan t = rw add-one

pub left : (plan : Plan) (s s' : State) (t : ℕ) → t ≤ 2 ^ 49 → IsPlan plan → s ≡ before plan t → s' ≡ ended_until s t → s' ≡ ended (before plan t) t
left plan s s' t small p e f = f ∙ ap (λ (z : State). ended_until z t) e ∙ ended-is (before plan t) t (run-before plan t small p).lasting

-- without the jobs that end by t, and with those of the first k jobs that are submitted at t, the state before t is sound
pub sound-arrivals : (plan : Plan) (s s' : State) (t k : ℕ) → t ≤ 2 ^ 49 → IsPlan plan → s ≡ before plan t → s' ≡ ended_until s t → IsSound (joined s' (filter (λ (j : EffectiveJob). nat_eq j.submit t) (take k plan.jobs)))
sound-arrivals plan s s' t k small p e f =
    subst (λ (z : State). IsSound (joined z (filter (λ (j : EffectiveJob). nat_eq j.submit t) (take k plan.jobs)))) (sym (left plan s s' t small p e f)) (sound-joined plan (before plan t) t k p (run-before plan t small p))

-- without the jobs that end by t, and with those that are submitted at t, the state before t is the one to which the rule is applied at t
pub second-is : (plan : Plan) (s s' s'' : State) (t : ℕ) → t ≤ 2 ^ 49 → IsPlan plan → s ≡ before plan t → s' ≡ ended_until s t → s'' ≡ joined s' (submitted plan t) → s'' ≡ ready plan (before plan t) t
second-is plan s s' s'' t small p e f g = g ∙ ap (λ (z : State). joined z (submitted plan t)) (left plan s s' t small p e f)

-- without the jobs that end by t, the state before t has the plan's processors
pub procs-is : (plan : Plan) (s s' : State) (t : ℕ) → t ≤ 2 ^ 49 → IsPlan plan → s ≡ before plan t → s' ≡ ended_until s t → s'.procs ≡ plan.procs
procs-is plan s s' t small p e f = ap (λ (z : State). z.procs) (left plan s s' t small p e f) ∙ (run-before plan t small p).procs

-- where the state is sound with one more of the jobs of t, nobody has the number of that job before it arrives
pub absent-item : (s : State) (t i : ℕ) (job : EffectiveJob) (js : List EffectiveJob) → i < length js → job ≡ get_or js i job → job.submit ≡ t → IsSound (joined s (filter (λ (j : EffectiveJob). nat_eq j.submit t) (take (i + 1) js)))
    → holders (joined s (filter (λ (j : EffectiveJob). nat_eq j.submit t) (take i js))) job.number ≡ 0
absent-item s t i job js l at here h =
    ap (λ (j : EffectiveJob). holders (joined s (filter (λ (j : EffectiveJob). nat_eq j.submit t) (take i js))) j.number) at
    ∙ absent-next s t i job js l (ap (λ (j : EffectiveJob). j.submit) (sym at) ∙ here) h
