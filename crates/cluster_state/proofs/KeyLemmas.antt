-- The heap of ends and the row of the running jobs: who starts joins both. Whose end is taken from the heap stands in the row under its expected
-- end and number, and there alone; it leaves on both sides, and those who outlast its end stay.
use Rattle.std.proofs.Common.{◌≡◌, ℕ, suc, ◌+◌, ◌≤◌, ◌<◌, Bool, true, false, cond, ◌&&◌, ◌==◌, nat_eq, List, ◌∷◌, All, find, sum_by, nat_lt, filter, length, refl, sym, ◌∙◌, ap, arith, Some, None}
use Rattle.std.specs.declared.cmp.Reverse.{Reverse}
use Rattle.std.specs.List.Sorted.{IsPermutation}
use Rattle.std.proofs.lemmas.List.Sums.{sum_by-le-sum_by}
use Rattle.std.proofs.lemmas.List.Sorted.{sum_by_pushed}
use Rattle.std.proofs.lemmas.Bool.{cond-true, eq-eqb, eqb-true, and_from, and_parts, le-ltb}
use Rattle.blocks.specs.Rows.{is_at, without_first}
use Rattle.scenarios.specs.declared.placed.Placed.{Placed}
use Rattle.scenarios.specs.Placed.{expected_end, real_end}
use Rattle.cluster_state.specs.declared.ends.End.{End}
use Rattle.cluster_state.specs.Ends.{by_number, end_of, entered, RisesByEnd}
use Rattle.cluster_state.proofs.StateLemmas.{test-find}
use Rattle.cluster_state.proofs.EndLemmas.{EndsOf, none-sooner, sum_by-entered, sum_by-ones}
use Rattle.cluster_state.proofs.LeavingLemmas.{sum_by-leaves, sum_by-others, none-found, filter-leaves, rises-others}
use Rattle.cluster_state.proofs.NumberLemmas.{Once, sum_by-by_number, by_number-filter}

abbrev pub KeysOf : List (Reverse End) → List Placed → Type 0
KeysOf ends rs = (f : End → ℕ) → sum_by (λ e. f e.0) ends ≡ sum_by (λ r. f (end_of r)) rs

-- the seconds in a heap that has the end of each job of a row are those at which these jobs, by number, end
pub ends-of : (ends : List (Reverse End)) (runners : List Placed) → KeysOf ends runners → EndsOf (λ (e : Reverse End). e.0.end) ends (by_number runners)
ends-of ends runners h = λ f. h (λ e. f e.end) ∙ sym (sum_by-by_number (λ r. f (real_end r)) runners)

-- a heap with the ends of a row's jobs, and the end of one job more, has those of the row that this job has entered
pub keys-joined : (ends ends' : List (Reverse End)) (x : Reverse End) (r : Placed) (runners : List Placed) → KeysOf ends runners → IsPermutation (x ∷ ends) ends' → x.0 ≡ end_of r → KeysOf ends' (entered r runners)
keys-joined ends ends' x r runners h p here = λ f. (let a = sum_by_pushed (λ (e : Reverse End). f e.0) x ends ends' p in let b = h f in let c = sum_by-entered (λ r. f (end_of r)) r runners in let d = ap f here in omega (arith, a, b, c, d))

-- where no end in the heap comes by second t, all jobs of the row outlast it
pub nobody-due : (ends : List (Reverse End)) (runners : List Placed) (t : ℕ) → KeysOf ends runners → All (λ (x : Reverse End). t < x.0.end) ends → All (λ r. t < real_end r) (by_number runners)
nobody-due ends runners t h later = none-sooner (λ (e : Reverse End). e.0.end) ends (by_number runners) (suc t) (ends-of ends runners h) later

abbrev made : ℕ → ℕ → ℕ → End
made a b c = record { end = a; expected_end = b; number = c }

same-end : (a b : End) → a.end ≡ b.end → a.expected_end ≡ b.expected_end → a.number ≡ b.number → a ≡ b
same-end a b p q r = ap (λ n. made n a.expected_end a.number) p ∙ ap (λ n. made b.end n a.number) q ∙ ap (λ n. made b.end b.expected_end n) r

abbrev is : End → End → Bool
is a b = nat_eq a.end b.end && (nat_eq a.expected_end b.expected_end && nat_eq a.number b.number)

is-itself : (a : End) → is a a ≡ true
is-itself a = and_from (nat_eq a.end a.end) (nat_eq a.expected_end a.expected_end && nat_eq a.number a.number) (eq-eqb a.end a.end refl) (and_from (nat_eq a.expected_end a.expected_end) (nat_eq a.number a.number) (eq-eqb a.expected_end a.expected_end refl) (eq-eqb a.number a.number refl))

is-same : (a b : End) → is a b ≡ true → a ≡ b
is-same a b h =
    let p = and_parts (nat_eq a.end b.end) (nat_eq a.expected_end b.expected_end && nat_eq a.number b.number) h in
    let q = and_parts (nat_eq a.expected_end b.expected_end) (nat_eq a.number b.number) p.1 in
    same-end a b (eqb-true a.end b.end p.0) (eqb-true a.expected_end b.expected_end q.0) (eqb-true a.number b.number q.1)

is-named : (a b : End) → is a b ≡ true → nat_eq a.number b.number ≡ true
is-named a b h = (and_parts (nat_eq a.expected_end b.expected_end) (nat_eq a.number b.number) (and_parts (nat_eq a.end b.end) (nat_eq a.expected_end b.expected_end && nat_eq a.number b.number) h).1).1

-- a running job's number, as the row has it
abbrev pub num : Placed → ℕ
num r = r.job.number

is-at : (r : Placed) (x : End) → is (end_of r) x ≡ true → is_at expected_end num x.expected_end x.number r ≡ true
is-at r x h = (and_parts (nat_eq (real_end r) x.end) (nat_eq (expected_end r) x.expected_end && nat_eq r.job.number x.number) h).1

fewer-pass : (p q : Bool) → (p ≡ true → q ≡ true) → cond {A = ℕ} p 1 0 ≤ cond {A = ℕ} q 1 0
fewer-pass true q h = let one = cond-true {A = ℕ} q 1 0 (h refl) in omega (arith, one)
fewer-pass false q h = omega arith

passes : (b : Bool) → 1 ≤ cond {A = ℕ} b 1 0 → b ≡ true
passes true l = refl
passes false l = absurd (omega (arith, l))

-- the row without the first job that has this end's expected end and number
abbrev pub left-runners : End → List Placed → List Placed
left-runners x runners = without_first (is_at expected_end num x.expected_end x.number) runners

abbrev pub lasts : ℕ → Placed → Bool
lasts t r = nat_lt t (real_end r)

module _ (ends mid : List (Reverse End)) (x : End) (runners : List Placed) (keys : KeysOf ends runners) (rises : RisesByEnd runners) (once : Once runners) (popped : (f : End → ℕ) → f x + sum_by (λ e. f e.0) mid ≡ sum_by (λ e. f e.0) ends) where
  stands : 1 ≤ sum_by (λ (r : Placed). cond {A = ℕ} (is (end_of r) x) 1 0) runners
  stands =
      let one = cond-true {A = ℕ} (is x x) 1 0 (is-itself x) in
      let k = popped (λ e. cond (is e x) 1 0) in
      let l = keys (λ e. cond (is e x) 1 0) in
      omega (arith, one, k, l)

  -- in the row stands a job with the expected end and number of an end that was taken from the heap
  pub is-found : find (is_at expected_end num x.expected_end x.number) runners ≡ None → ⊥
  is-found found =
      let none = none-found (is_at expected_end num x.expected_end x.number) runners found in
      let fewer = sum_by-le-sum_by (λ (r : Placed). cond (is (end_of r) x) 1 0) (λ r. cond (is_at expected_end num x.expected_end x.number r) 1 0) runners (λ r. fewer-pass (is (end_of r) x) (is_at expected_end num x.expected_end x.number r) (λ y. is-at r x y)) in
      omega (arith, none, fewer, stands)

  module _ (r : Placed) (found : find (is_at expected_end num x.expected_end x.number) runners ≡ Some r) where
    ends-so : end_of r ≡ x
    ends-so =
        let test : Placed → Bool = is_at expected_end num x.expected_end x.number in
        let its = sum_by-leaves test (λ (r : Placed). cond {A = ℕ} (is (end_of r) x) 1 0) runners r found in
        let named = sum_by-leaves test (λ (r : Placed). cond {A = ℕ} (nat_eq r.job.number x.number) 1 0) runners r found in
        let here = cond-true {A = ℕ} (nat_eq r.job.number x.number) 1 0 (and_parts (expected_end r == x.expected_end) (r.job.number == x.number) (test-find test runners r found)).1 in
        let fewer = sum_by-le-sum_by (λ (r : Placed). cond (is (end_of r) x) 1 0) (λ (r : Placed). cond (nat_eq r.job.number x.number) 1 0) (left-runners x runners) (λ r. fewer-pass (is (end_of r) x) (nat_eq r.job.number x.number) (λ y. is-named (end_of r) x y)) in
        is-same (end_of r) x (passes (is (end_of r) x) (omega (arith, its, named, here, fewer, stands, once x.number)))

    -- the heap without the end that was taken has the ends of the row without its job
    pub keys-leave : KeysOf mid (left-runners x runners)
    keys-leave = λ f.
        let a = popped f in
        let b = keys f in
        let c = sum_by-leaves (is_at expected_end num x.expected_end x.number) (λ (r : Placed). f (end_of r)) runners r found in
        let d = ap f ends-so in
        omega (arith, a, b, c, d)

    -- no two of the row without this job have one number
    pub once-left : Once (left-runners x runners)
    once-left n = omega (arith, once n, sum_by-others (is_at expected_end num x.expected_end x.number) (λ (r : Placed). cond (nat_eq r.job.number n) 1 0) runners)

    -- in the row without this job each is expected to end sooner than all behind it
    pub rises-left : RisesByEnd (left-runners x runners)
    rises-left = rises-others (is_at expected_end num x.expected_end x.number) runners rises

    -- the value of this job, and the sum over the others by number, are the sum over all by number
    pub sum_by-left : (f : Placed → ℕ) → f r + sum_by f (by_number (left-runners x runners)) ≡ sum_by f (by_number runners)
    sum_by-left f = omega (arith, sum_by-leaves (is_at expected_end num x.expected_end x.number) f runners r found, sum_by-by_number f runners, sum_by-by_number f (left-runners x runners))

    -- by number, fewer are left without this job
    pub length-left : length (by_number (left-runners x runners)) < length (by_number runners)
    length-left = omega (arith, sum_by-left (λ _. 1), sum_by-ones (by_number runners), sum_by-ones (by_number (left-runners x runners)))

    -- where this job ends by a second, those that outlast it are the same without the job
    pub filter-left : (t : ℕ) → x.end ≤ t → filter (lasts t) (by_number (left-runners x runners)) ≡ filter (lasts t) (by_number runners)
    filter-left t by =
        let ends : real_end r ≡ x.end = ap (λ (e : End). e.end) ends-so in
        sym (by_number-filter (lasts t) (left-runners x runners) rises-left once-left)
        ∙ ap by_number (filter-leaves (is_at expected_end num x.expected_end x.number) (lasts t) runners r found (le-ltb t (real_end r) (omega (arith, ends, by))))
        ∙ by_number-filter (lasts t) runners rises once
