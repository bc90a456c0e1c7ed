-- No job starts before its submit second, as many start as there are jobs, and sums can be made over the jobs of starts that stand together.
use Rattle.std.proofs.Common.{◌≡◌, ℕ, suc, ◌+◌, ◌-◌, ◌^◌, ◌≤◌, ◌<◌, Bool, true, false, cond, nat_eq, List, [], ◌∷◌, ◌++◌, length, length-append, get_or, Option, Some, None, All, count_by, refl, sym, ◌∙◌, ap, arith, subst, inl, inr, ⊎_elim}
use Rattle.std.specs.Prelude.{find, IsSomeAnd}
use Rattle.std.specs.Option.{option_map, option_or}
use Rattle.std.proofs.lemmas.Bool.{eqb-true, eq-eqb, true≢false, cases_Bool, cond-true, cond-false}
use Rattle.std.proofs.lemmas.List.Sums.{sum_by-cons, sum_by-remove}
use Rattle.std.specs.List.{remove}
use Rattle.std.proofs.lemmas.List.Edits.{length-remove}
use Rattle.std.proofs.lemmas.List.Folds.{find-append}
use Rattle.std.proofs.lemmas.List.Elements.{All-nil, All-cons, All-append, All-head, All-tail}
use Rattle.scenarios.specs.Job.{EffectiveJob}
use Rattle.scenarios.specs.Plan.{Plan, job_numbered}
use Rattle.cluster_state.proofs.Lemmas.{All-find, test-find}
use Rattle.easy_rule.specs.declared.start.Start.{Start}
use Rattle.easy_rule.specs.Simulation.{sim, start_of, starts_before, last_submit, bound}
use Rattle.easy_rule.proofs.Lemmas.{cases_option, find-none, none-passes}
use Rattle.scenarios.specs.SoundPlan.{IsPlan}
use Rattle.timeline.proofs.Lemmas.{submits-by, starts-below, all-start-early, each-job-starts-once, none-starts-early, later}
use Rattle.metrics.specs.Placed.{CanStart, CanSum}
use Rattle.checkpoints.specs.Cut.{placed_of}

pub outcome-later : (plan : Plan) (t : ℕ) → t ≤ bound plan + 1 → (ys : List Start) × (sim plan ≡ starts_before plan t ++ ys) × All (λ (x : Start). t ≤ x.at) ys
outcome-later plan t l =
    let n = bound plan + 1 - t in
    let whole : t + n ≡ bound plan + 1 = omega arith in
    let k = later plan t n in
    (k.0, ap (starts_before plan) (sym whole) ∙ k.1, k.2)

abbrev second_of : Option Start → Option ℕ
second_of o = option_map (λ (x : Start). x.at) o

found-none : (o : Option Start) → second_of o ≡ None → o ≡ None
found-none None e = refl
found-none (Some x) e = absurd (cc)

pub submit-bounded : (plan : Plan) (n : ℕ) (job : EffectiveJob) → job_numbered plan.jobs n ≡ Some job → job.submit ≤ bound plan
submit-bounded plan n job is =
    let l : job.submit ≤ last_submit plan.jobs = All-find (λ (j : EffectiveJob). j.submit ≤ last_submit plan.jobs) (λ (j : EffectiveJob). nat_eq j.number n) plan.jobs job is (submits-by plan.jobs) in
    omega (arith, l)

-- before its submit second a job has no start
pub not-before : (plan : Plan) (n t : ℕ) (job : EffectiveJob) → IsPlan plan → job_numbered plan.jobs n ≡ Some job → t ≤ job.submit → start_of (starts_before plan t) n ≡ None
not-before plan n t job p is le =
    let has : Start → Bool = λ x. nat_eq x.number n in
    let mine : EffectiveJob → Bool = λ j. nat_eq j.number n in
    let within = submit-bounded plan n job is in
    let tl = outcome-later plan t (omega (arith, within, le)) in
    elim (cases_option (find has (starts_before plan t))) [
      | inl none ↦ ap second_of none
      | inr (x, some) ↦
          let low : x.at < t = All-find (λ (y : Start). y.at < t) has (starts_before plan t) x some (starts-below plan t) in
          let first : find has (sim plan) ≡ Some x = ap (find has) tl.1 ∙ find-append has (starts_before plan t) tl.0 ∙ ap (λ (o : Option Start). option_or o (find has tl.0)) some in
          let early = All-find (λ (j : EffectiveJob). IsSomeAnd (start_of (sim plan) j.number) (λ u. j.submit ≤ u)) mine plan.jobs job is (none-starts-early plan p) in
          let same : job.number ≡ n = eqb-true job.number n (test-find mine plan.jobs job is) in
          let high : job.submit ≤ x.at = subst (λ (o : Option ℕ). IsSomeAnd o (λ u. job.submit ≤ u)) (ap (start_of (sim plan)) same ∙ ap second_of first) early in
          absurd (omega (arith, low, high, le))
    ]

none-counted : {X : Type 0} (p : X → Bool) (xs : List X) → All (λ x. p x ≡ false) xs → count_by p xs ≡ 0
none-counted p [] h = refl
none-counted p (x ∷ xs) h =
    let f = sum_by-cons (λ y. cond {A = ℕ} (p y) 1 0) x xs in
    let g = cond-false {A = ℕ} (p x) 1 0 (All-head (λ y. p y ≡ false) x xs h) in
    let i = none-counted p xs (All-tail (λ y. p y ≡ false) x xs h) in
    omega (arith, f, g, i)

counted-none : {X : Type 0} (p : X → Bool) (xs : List X) → count_by p xs ≡ 0 → All (λ x. p x ≡ false) xs
counted-none p [] h = All-nil (λ x. p x ≡ false)
counted-none p (x ∷ xs) h =
    let f = sum_by-cons (λ y. cond {A = ℕ} (p y) 1 0) x xs in
    ⊎_elim
    (λ (b : p x ≡ true). let g = cond-true {A = ℕ} (p x) 1 0 b in absurd (omega (arith, f, g, h)))
    (λ (b : p x ≡ false). All-cons (λ y. p y ≡ false) x xs b (counted-none p xs (omega (arith, f, h))))
    (cases_Bool (p x))

-- a number without a job in the plan has no start in its simulation
pub not-started : (plan : Plan) (n : ℕ) → IsPlan plan → job_numbered plan.jobs n ≡ None → start_of (sim plan) n ≡ None
not-started plan n p none =
    let has : Start → Bool = λ x. nat_eq x.number n in
    let mine : EffectiveJob → Bool = λ j. nat_eq j.number n in
    let zero' : count_by mine plan.jobs ≡ 0 = none-counted mine plan.jobs (none-passes mine plan.jobs none) in
    ap second_of (find-none has (sim plan) (counted-none has (sim plan) (each-job-starts-once plan n p ∙ zero')))

pub start-late : (plan : Plan) (n : ℕ) (job : EffectiveJob) → IsPlan plan → job_numbered plan.jobs n ≡ Some job → All (λ (x : Start). nat_eq x.number n ≡ true → job.submit ≤ x.at) (sim plan)
start-late plan n job p is =
    let has : Start → Bool = λ x. nat_eq x.number n in
    let within = submit-bounded plan n job is in
    let tl = outcome-later plan job.submit (omega (arith, within)) in
    let Q : Start → Type 0 = λ x. nat_eq x.number n ≡ true → job.submit ≤ x.at in
    let none = none-passes has (starts_before plan job.submit) (found-none (find has (starts_before plan job.submit)) (not-before plan n job.submit job p is (omega arith))) in
    subst (All Q) (sym tl.1)
    (All-append Q (starts_before plan job.submit) tl.0
    (λ i d l e. absurd (true≢false (sym e ∙ none i d l)))
    (λ i d l e. tl.2 i d l))

abbrev pub InTime : Plan → Start → Type 0
InTime plan x = (job : EffectiveJob) → job_numbered plan.jobs x.number ≡ Some job → (job.submit ≤ x.at) × (x.at < 2 ^ 49)

eqb-itself : (n : ℕ) → nat_eq n n ≡ true
eqb-itself n = eq-eqb n n refl

pub all-in-time : (plan : Plan) → IsPlan plan → All (InTime plan) (sim plan)
all-in-time plan p i d l job is =
    (start-late plan (get_or (sim plan) i d).number job p is i d l (eqb-itself (get_or (sim plan) i d).number), all-start-early plan (sim plan) p refl i d l)

placed-each : (plan : Plan) (xs : List Start) → All (InTime plan) xs → All CanStart (placed_of plan.jobs xs)
placed-each plan [] h = All-nil CanStart
placed-each plan (x ∷ xs) h =
    let rest = placed-each plan xs (All-tail (InTime plan) x xs h) in
    elim (cases_option (job_numbered plan.jobs x.number)) [
      | inl none ↦ rw none rest
      | inr (job, some) ↦
          let k = All-head (InTime plan) x xs h job some in
          rw some (All-cons CanStart (record { job = job; start = x.at }) (placed_of plan.jobs xs) (record { after_submit = k.0; in_time = k.1 }) rest)
    ]

-- there are no more jobs of some starts than starts
pub placed-fewer : (jobs : List EffectiveJob) (xs : List Start) → length (placed_of jobs xs) ≤ length xs
placed-fewer jobs [] = omega arith
placed-fewer jobs (x ∷ xs) =
    let i = placed-fewer jobs xs in
    elim (cases_option (job_numbered jobs x.number)) [
      | inl none ↦ rw none (omega (arith, i))
      | inr (job, some) ↦ rw some (omega (arith, i))
    ]

counted-where : {X : Type 0} (p : X → Bool) (xs : List X) → 1 ≤ count_by p xs → (k : ℕ) × (d : X) × (k < length xs) × (p (get_or xs k d) ≡ true)
counted-where {X = X} p [] l = absurd (omega arith)
counted-where {X = X} p (x ∷ xs) l =
    let f = sum_by-cons (λ y. cond {A = ℕ} (p y) 1 0) x xs in
    ⊎_elim
    (λ (b : p x ≡ true). (0, x, omega arith, b))
    (λ (b : p x ≡ false).
    let g = cond-false {A = ℕ} (p x) 1 0 b in
    let i = counted-where p xs (omega (arith, l, f, g)) in
    (suc i.0, i.1, (let k = i.2 in omega (arith, k)), i.3))
    (cases_Bool (p x))

module _ {X Y : Type 0} (f : X → ℕ) (g : Y → ℕ) where
  pub no-more : (xs : List X) (ys : List Y) → ((n : ℕ) → count_by (λ x. nat_eq (f x) n) xs ≤ count_by (λ y. nat_eq (g y) n) ys) → length xs ≤ length ys
  no-more [] ys h = omega arith
  no-more (x ∷ xs) ys h =
      let test : X → Bool = λ z. nat_eq (f z) (f x) in
      let other : Y → Bool = λ y. nat_eq (g y) (f x) in
      let a = sum_by-cons (λ z. cond {A = ℕ} (test z) 1 0) x xs in
      let b = cond-true {A = ℕ} (test x) 1 0 (eqb-itself (f x)) in
      let e = h (f x) in
      let w = counted-where other ys (omega (arith, a, b, e)) in
      let y : Y = get_or ys w.0 w.1 in
      let same : g y ≡ f x = eqb-true (g y) (f x) w.3 in
      let one = length-remove ys w.0 w.2 in
      let fewer = no-more xs (remove ys w.0) (λ n.
      let c = sum_by-cons (λ z. cond {A = ℕ} (nat_eq (f z) n) 1 0) x xs in
      let d = sum_by-remove (λ z. cond {A = ℕ} (nat_eq (g z) n) 1 0) ys w.0 w.1 w.2 in
      let k = ap (λ m. cond {A = ℕ} (nat_eq m n) 1 0) same in
      let all = h n in
      omega (arith, c, d, k, all)) in
      omega (arith, one, fewer)

-- no more jobs start than there are
pub sim-fewer : (plan : Plan) → IsPlan plan → length (sim plan) ≤ length plan.jobs
sim-fewer plan p = no-more (λ (x : Start). x.number) (λ (j : EffectiveJob). j.number) (sim plan) plan.jobs (λ n. let e = each-job-starts-once plan n p in omega (arith, e))

-- as many start as there are jobs
pub sim-counted : (plan : Plan) → IsPlan plan → length (sim plan) ≡ length plan.jobs
sim-counted plan p =
    let more = no-more (λ (j : EffectiveJob). j.number) (λ (x : Start). x.number) plan.jobs (sim plan) (λ n. let e = each-job-starts-once plan n p in omega (arith, e)) in
    let fewer = sim-fewer plan p in
    omega (arith, more, fewer)

-- a simulation has 4194304 starts at most
pub sim-few : (plan : Plan) → IsPlan plan → length (sim plan) ≤ 4194304
sim-few plan p = let l = sim-fewer plan p in let few = p.few in omega (arith, l, few)

All-first : {X : Type 0} (P : X → Type 0) (xs ys : List X) → All P (xs ++ ys) → All P xs
All-first P [] ys h = All-nil P
All-first P (x ∷ xs) ys h = All-cons P x xs (All-head P x (xs ++ ys) h) (All-first P xs ys (All-tail P x (xs ++ ys) h))

All-last : {X : Type 0} (P : X → Type 0) (xs ys : List X) → All P (xs ++ ys) → All P ys
All-last P [] ys h = h
All-last P (x ∷ xs) ys h = All-last P xs ys (All-tail P x (xs ++ ys) h)

pub can-sum-part : (plan : Plan) (xs ys zs : List Start) → IsPlan plan → sim plan ≡ (xs ++ ys) ++ zs → CanSum (placed_of plan.jobs ys)
can-sum-part plan xs ys zs p e =
    let times : All (InTime plan) ((xs ++ ys) ++ zs) = subst (All (InTime plan)) e (all-in-time plan p) in
    let few : length ((xs ++ ys) ++ zs) ≤ 4194304 = subst (λ l. length l ≤ 4194304) e (sim-few plan p) in
    let c = length-append (xs ++ ys) zs in
    let d = length-append xs ys in
    let f = placed-fewer plan.jobs ys in
    record {
      each = placed-each plan ys (All-last (InTime plan) xs ys (All-first (InTime plan) (xs ++ ys) zs times));
      few = omega (arith, c, d, f, few);
    }

-- sums can be made over the jobs that start from second a to before b, which is one second after the bound at most
pub can-sum : (plan : Plan) (a b : ℕ) (starts : List Start) → IsPlan plan → b ≤ bound plan + 1 → starts_before plan a ++ starts ≡ starts_before plan b → CanSum (placed_of plan.jobs starts)
can-sum plan a b starts p l outcome =
    let tl = outcome-later plan b l in
    can-sum-part plan (starts_before plan a) starts tl.0 p (tl.1 ∙ ap (λ xs. xs ++ tl.0) (sym outcome))
