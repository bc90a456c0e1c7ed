-- Whether some numbers wait or run, told by their own starts.
use Rattle.std.proofs.Common.{◌≡◌, ℕ, ◌+◌, ◌-◌, ◌≤◌, ◌<◌, ◌↔◌, ◌||◌, Bool, true, false, cond, nat_eq, nat_lt, count_by, sum_by, All, List, [], ◌∷◌, ◌++◌, Option, Some, None, refl, sym, ◌∙◌, ap, subst, arith, ⊎_elim}
use Rattle.std.specs.Prelude.{IfSome, IsSomeAnd}
use Rattle.std.proofs.lemmas.Bool.{cond-true, cond-false, cases_Bool, cases_lt, eq-eqb, eqb-true, false≢true, ltb-true, lt-ltb}
use Rattle.std.proofs.lemmas.List.Elements.{All-head, All-tail}
use Rattle.std.proofs.lemmas.List.Sums.{sum_by-cons, sum_by-append}
use Rattle.scenarios.specs.Job.{EffectiveJob}
use Rattle.scenarios.specs.Plan.{Plan, job_numbered}
use Rattle.scenarios.specs.SoundPlan.{IsPlan}
use Rattle.cluster_state.specs.Snapshot.{numbers_of, standing}
use Rattle.easy_rule.specs.declared.start.Start.{Start}
use Rattle.easy_rule.specs.Simulation.{before, bound, sim, starts_before, start_of}
use Rattle.timeline.specs.Closed.{known_start}
use Rattle.timeline.proofs.Lemmas.{each-job-starts-once, later, none-starts-early, numbers-stand-until-they-end, starts-are-final}
use Rattle.rejoin.specs.Named.{submit_in}
use Rattle.rejoin.specs.Started.{among, AreSingle, starts_of, count_before, StartsTellWhoStands}
use Rattle.rejoin.proofs.Noting.{without-first, no-count}

abbrev counted : List Start → ℕ → ℕ
counted xs n = count_by (λ (x : Start). nat_eq x.number n) xs

count-cons : (p : Start → Bool) (y : Start) (ys : List Start) → count_by p (y ∷ ys) ≡ cond {A = ℕ} (p y) 1 0 + count_by p ys
count-cons p y ys = sum_by-cons (λ (x : Start). cond {A = ℕ} (p x) 1 0) y ys

number-cons : (n m : ℕ) (ms : List ℕ) → count_by (λ k. nat_eq k n) (m ∷ ms) ≡ cond {A = ℕ} (nat_eq m n) 1 0 + count_by (λ k. nat_eq k n) ms
number-cons n m ms = sum_by-cons (λ (k : ℕ). cond {A = ℕ} (nat_eq k n) 1 0) m ms

or-true : (b c : Bool) → b ≡ true → (b || c) ≡ true
or-true true c e = refl
or-true false c e = absurd (false≢true e)

or-false : (b c : Bool) → b ≡ false → (b || c) ≡ c
or-false true c e = absurd (false≢true (sym e))
or-false false c e = refl

turned : (m n : ℕ) (b : Bool) → nat_eq m n ≡ b → nat_eq n m ≡ b
turned m n true e = eq-eqb n m (sym (eqb-true m n e))
turned m n false e = ⊎_elim (λ (t : nat_eq n m ≡ true). absurd (false≢true (sym e ∙ eq-eqb m n (sym (eqb-true n m t))))) (λ (f : nat_eq n m ≡ false). f) (cases_Bool (nat_eq n m))

among-count : (ns : List ℕ) (n : ℕ) → count_by (λ k. nat_eq k n) ns ≡ 0 → among ns n ≡ false
among-count [] n e = refl
among-count (m ∷ ms) n e =
    let more = number-cons n m ms in
    ⊎_elim
    (λ (here : nat_eq m n ≡ true). absurd (let one = cond-true {A = ℕ} (nat_eq m n) 1 0 here in omega (arith, e, more, one)))
    (λ (other : nat_eq m n ≡ false). or-false (nat_eq m n) (among ms n) other ∙ among-count ms n (let none = cond-false {A = ℕ} (nat_eq m n) 1 0 other in omega (arith, e, more, none)))
    (cases_Bool (nat_eq m n))

single-tail : (m : ℕ) (ms : List ℕ) → AreSingle (m ∷ ms) → AreSingle ms
single-tail m ms once n = let more = number-cons n m ms in let o = once n in omega (arith, more, o)

single-new : (m : ℕ) (ms : List ℕ) → AreSingle (m ∷ ms) → among ms m ≡ false
single-new m ms once = among-count ms m (let more = number-cons m m ms in let o = once m in let one = cond-true {A = ℕ} (nat_eq m m) 1 0 (eq-eqb m m refl) in omega (arith, more, o, one))

one-more : (m : ℕ) (ms : List ℕ) (n : ℕ) → among ms m ≡ false → cond {A = ℕ} (among (m ∷ ms) n) 1 0 ≡ cond {A = ℕ} (nat_eq n m) 1 0 + cond {A = ℕ} (among ms n) 1 0
one-more m ms n new =
    ⊎_elim
    (λ (here : nat_eq m n ≡ true).
    let a = cond-true {A = ℕ} (nat_eq m n || among ms n) 1 0 (or-true (nat_eq m n) (among ms n) here) in
    let b = cond-true {A = ℕ} (nat_eq n m) 1 0 (turned m n true here) in
    let c = cond-false {A = ℕ} (among ms n) 1 0 (ap (among ms) (sym (eqb-true m n here)) ∙ new) in
    omega (arith, a, b, c))
    (λ (other : nat_eq m n ≡ false).
    let a = ap (λ (r : Bool). cond {A = ℕ} r 1 0) (or-false (nat_eq m n) (among ms n) other) in
    let b = cond-false {A = ℕ} (nat_eq n m) 1 0 (turned m n false other) in
    omega (arith, a, b))
    (cases_Bool (nat_eq m n))

starts-split : (m : ℕ) (ms : List ℕ) → among ms m ≡ false → (xs : List Start) → starts_of (m ∷ ms) xs ≡ counted xs m + starts_of ms xs
starts-split m ms new [] = refl
starts-split m ms new (x ∷ xs) =
    let a = count-cons (λ (y : Start). among (m ∷ ms) y.number) x xs in
    let b = count-cons (λ (y : Start). nat_eq y.number m) x xs in
    let c = count-cons (λ (y : Start). among ms y.number) x xs in
    let e = one-more m ms x.number new in
    omega (arith, a, b, c, e, starts-split m ms new xs)

starts-none : (xs : List Start) → starts_of [] xs ≡ 0
starts-none [] = refl
starts-none (x ∷ xs) = let a = count-cons (λ (y : Start). among [] y.number) x xs in omega (arith, a, starts-none xs)

starts-each : (xs : List Start) (ns : List ℕ) → AreSingle ns → starts_of ns xs ≡ sum_by (counted xs) ns
starts-each xs [] once = starts-none xs
starts-each xs (m ∷ ms) once =
    let a = starts-split m ms (single-new m ms once) xs in
    let b = sum_by-cons (counted xs) m ms in
    omega (arith, a, b, starts-each xs ms (single-tail m ms once))

squeezed : (f g : ℕ → ℕ) → ((n : ℕ) → f n ≤ g n) → (ns : List ℕ) → (sum_by f ns ≤ sum_by g ns) × ((sum_by f ns ≡ sum_by g ns) ↔ ((n : ℕ) → among ns n ≡ true → f n ≡ g n))
squeezed f g less [] = (omega arith, ((λ e n h. absurd (false≢true h)), (λ h. refl)))
squeezed f g less (m ∷ ms) =
    let i = squeezed f g less ms in
    let l = less m in
    let a = sum_by-cons f m ms in
    let b = sum_by-cons g m ms in
    let below = i.0 in (
      omega (arith, l, a, b, below),
      (
        (λ e n h.
            let here : f m ≡ g m = omega (arith, l, a, b, below, e) in
            ⊎_elim
            (λ (this : nat_eq m n ≡ true). subst (λ k. f k ≡ g k) (eqb-true m n this) here)
            (λ (other : nat_eq m n ≡ false). i.1.0 (omega (arith, a, b, e, here)) n (sym (or-false (nat_eq m n) (among ms n) other) ∙ h))
            (cases_Bool (nat_eq m n))),
        (λ h.
            let here = h m (or-true (nat_eq m m) (among ms m) (eq-eqb m m refl)) in
            let rest = i.1.1 (λ n k. h n (or-later (nat_eq m n) (among ms n) k)) in
            omega (arith, a, b, here, rest)),
      ),
    )
  where
    or-later : (b c : Bool) → c ≡ true → (b || c) ≡ true
    or-later true c e = refl
    or-later false c e = e

none-count : (xs : List Start) (n : ℕ) → start_of xs n ≡ None → counted xs n ≡ 0
none-count [] n e = refl
none-count (y ∷ ys) n e =
    let more = count-cons (λ (x : Start). nat_eq x.number n) y ys in
    let other = without-first y ys n e in
    let none = cond-false {A = ℕ} (nat_eq y.number n) 1 0 other.0 in
    omega (arith, more, none, none-count ys n other.1)

abbrev Ended : Option EffectiveJob → Option ℕ → ℕ → Type 0
Ended o s t = IfSome s (λ at. IfSome o (λ job. at + job.length < t))

submit-count : (t : ℕ) (j : EffectiveJob) → count_before t (submit_in (Some j)) ≡ cond {A = ℕ} (nat_lt j.submit t) 1 0
submit-count t j = let a = sum_by-cons (λ (s : ℕ). cond {A = ℕ} (nat_lt s t) 1 0) j.submit [] in omega (arith, a)

tells : (o : Option EffectiveJob) (s : Option ℕ) (c t standing' : ℕ) → (s ≡ None → c ≡ 0) → ((a : ℕ) → s ≡ Some a → c ≡ 1) → ((a : ℕ) → s ≡ Some a → IsSomeAnd o (λ j. j.submit < t))
    → (1 ≤ standing') ↔ IsSomeAnd o (λ job. (job.submit < t) × IfSome s (λ start. t ≤ start + job.length))
    → (c ≤ count_before t (submit_in o)) × (((c ≡ count_before t (submit_in o)) × Ended o s t) ↔ (1 ≤ standing' → ⊥))
tells None None c t st none some came law = let z = none refl in (omega (arith, z), ((λ h l. law.0 l), (λ h. (omega (arith, z), tt))))
tells None (Some a) c t st none some came law = absurd (came a refl)
tells (Some j) None c t st none some came law =
    let z = none refl in
    let count = submit-count t j in
    ⊎_elim
    (λ (l : j.submit < t).
    let one = cond-true {A = ℕ} (nat_lt j.submit t) 1 0 (lt-ltb j.submit t l) in (
      omega (arith, z),
      ((λ h s. let e = h.0 in omega (arith, e, z, count, one)), (λ h. absurd (h (law.1 (l, tt))))),
    ))
    (λ (l : t ≤ j.submit).
    let none' = cond-false {A = ℕ} (nat_lt j.submit t) 1 0 (ge-ltb j.submit t l) in (
      omega (arith, z),
      ((λ h s. let m = (law.0 s).0 in omega (arith, l, m)), (λ h. (omega (arith, z, count, none'), tt))),
    ))
    (cases_lt j.submit t)
  where
    ge-ltb : (a b : ℕ) → b ≤ a → nat_lt a b ≡ false
    ge-ltb a b l = ⊎_elim (λ (y : nat_lt a b ≡ true). absurd (let m = ltb-true a b y in omega (arith, l, m))) (λ (n : nat_lt a b ≡ false). n) (cases_Bool (nat_lt a b))
tells (Some j) (Some a) c t st none some came law =
    let z = some a refl in
    let l : j.submit < t = came a refl in
    let count = submit-count t j in
    let one = cond-true {A = ℕ} (nat_lt j.submit t) 1 0 (lt-ltb j.submit t l) in (
      omega (arith, z, count, one),
      (
        (λ h s. let m = (law.0 s).1 in let k = h.1 in omega (arith, m, k)),
        (λ h. (omega (arith, z, count, one), ⊎_elim (λ (k : a + j.length < t). k) (λ (k : t ≤ a + j.length). absurd (h (law.1 (l, k)))) (cases_lt (a + j.length) t))),
      ),
    )

-- no more starts of a number come before a second, which is one after the bound at most, than the plan has jobs of the number
pub few-starts : (plan : Plan) (t n : ℕ) → IsPlan plan → t ≤ bound plan + 1 → counted (starts_before plan t) n ≤ count_by (λ (j : EffectiveJob). nat_eq j.number n) plan.jobs
few-starts plan t n p l =
    let rest = later plan t (bound plan + 1 - t) in
    let whole : t + (bound plan + 1 - t) ≡ bound plan + 1 = omega (arith, l) in
    let split : starts_before plan (bound plan + 1) ≡ starts_before plan t ++ rest.0 = ap (starts_before plan) (sym whole) ∙ rest.1 in
    let all = each-job-starts-once plan n p in
    let same = ap (λ (xs : List Start). count_by (λ (x : Start). nat_eq x.number n) xs) split in
    let both = sum_by-append (λ (x : Start). cond {A = ℕ} (nat_eq x.number n) 1 0) (starts_before plan t) rest.0 in
    omega (arith, all, same, both)

job-some : (js : List EffectiveJob) (n : ℕ) (P : EffectiveJob → Type 0) → 1 ≤ count_by (λ (j : EffectiveJob). nat_eq j.number n) js → All P js → IsSomeAnd (job_numbered js n) (λ j. (j.number ≡ n) × P j)
job-some [] n P l all = absurd (omega (arith, l))
job-some (j ∷ js) n P l all =
    let more = sum_by-cons (λ (i : EffectiveJob). cond {A = ℕ} (nat_eq i.number n) 1 0) j js in
    ⊎_elim
    (λ (here : nat_eq j.number n ≡ true). subst (λ (o : Option EffectiveJob). IsSomeAnd o (λ i. (i.number ≡ n) × P i)) (sym (cond-true (nat_eq j.number n) (Some j) (job_numbered js n) here)) (eqb-true j.number n here, All-head P j js all))
    (λ (other : nat_eq j.number n ≡ false).
    let none = cond-false {A = ℕ} (nat_eq j.number n) 1 0 other in
    subst (λ (o : Option EffectiveJob). IsSomeAnd o (λ i. (i.number ≡ n) × P i)) (sym (cond-false (nat_eq j.number n) (Some j) (job_numbered js n) other)) (job-some js n P (omega (arith, l, more, none)) (All-tail P j js all)))
    (cases_Bool (nat_eq j.number n))

module _ (plan : Plan) (t : ℕ) (p : IsPlan plan) (l : t ≤ bound plan + 1) where
  some-count : (n a : ℕ) → known_start plan t n ≡ Some a → counted (starts_before plan t) n ≡ 1
  some-count n a e =
      let few = few-starts plan t n p l in
      let once = p.once n in
      ⊎_elim
      (λ (z : counted (starts_before plan t) n < 1). absurd (let k : None ≡ Some a = sym (no-count (starts_before plan t) n (omega (arith, z))) ∙ e in cc))
      (λ (m : 1 ≤ counted (starts_before plan t) n). omega (arith, few, once, m))
      (cases_lt (counted (starts_before plan t) n) 1)

  has-come : (n a : ℕ) → known_start plan t n ≡ Some a → IsSomeAnd (job_numbered plan.jobs n) (λ j. j.submit < t)
  has-come n a e =
      let few = few-starts plan t n p l in
      let one = some-count n a e in
      let final = (starts-are-final plan t n a p).0 e in
      go (job_numbered plan.jobs n) final (job-some plan.jobs n (λ j. IsSomeAnd (start_of (sim plan) j.number) (λ s. j.submit ≤ s)) (omega (arith, few, one)) (none-starts-early plan p))
    where
      go : (o : Option EffectiveJob) → (start_of (sim plan) n ≡ Some a) × (a < t) → IsSomeAnd o (λ j. (j.number ≡ n) × IsSomeAnd (start_of (sim plan) j.number) (λ s. j.submit ≤ s)) → IsSomeAnd o (λ j. j.submit < t)
      go None f h = h
      go (Some j) f h =
          let early : j.submit ≤ a = subst (λ o. IsSomeAnd o (λ s. j.submit ≤ s)) (ap (start_of (sim plan)) h.0 ∙ f.0) h.1 in
          let m = f.1 in
          omega (arith, early, m)

  number-tells : (n : ℕ) → (counted (starts_before plan t) n ≤ count_before t (submit_in (job_numbered plan.jobs n)))
      × (((counted (starts_before plan t) n ≡ count_before t (submit_in (job_numbered plan.jobs n))) × Ended (job_numbered plan.jobs n) (known_start plan t n) t) ↔ (1 ≤ standing (numbers_of (before plan t)) n → ⊥))
  number-tells n =
      tells (job_numbered plan.jobs n) (known_start plan t n) (counted (starts_before plan t) n) t (standing (numbers_of (before plan t)) n) (none-count (starts_before plan t) n) (some-count n) (has-come n) (numbers-stand-until-they-end plan t n p)

-- no more of some numbers have started before a second than are submitted before it, and all these have started and ended
-- exactly where none of the numbers waits or runs there
pub starts-tell-who-stands : StartsTellWhoStands
starts-tell-who-stands plan ns t p l once =
    let xs = starts_before plan t in
    let each = starts-each xs ns once in
    let both = squeezed (counted xs) (λ n. count_before t (submit_in (job_numbered plan.jobs n))) (λ n. (number-tells plan t p l n).0) ns in
    let less = both.0 in (
      omega (arith, each, less),
      (
        (λ (e, ended) n h. (number-tells plan t p l n).1.0 (both.1.0 (sym each ∙ e) n h, ended n h)),
        (λ none. (each ∙ both.1.1 (λ n h. ((number-tells plan t p l n).1.1 (none n h)).0), λ n h. ((number-tells plan t p l n).1.1 (none n h)).1)),
      ),
    )
