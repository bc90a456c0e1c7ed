-- The sums over two lists of jobs are those over the one and over the other.
use Rattle.std.proofs.Common.{◌≡◌, ℕ, ℤ, ◌+◌, true, false, cond, List, [], ◌∷◌, ◌++◌, filter, max, min, Option, Some, None, ap, arith, ◌∙◌, refl, length-append}
use Rattle.std.proofs.lemmas.List.Sums.{sum_by-append}
use Rattle.std.proofs.lemmas.List.Elements.{filter-append}
use Rattle.scenarios.specs.declared.placed.Placed.{Placed}
use Rattle.scenarios.specs.Placed.{real_end}
use Rattle.metrics.specs.Measures.{wait, slowdown, busy, busy_in}
use Rattle.metrics.specs.Totals.{totals, joined, greatest, least_submit, greatest_end, earlier_of, later_of, totals_alone}
use Rattle.metrics.specs.Users.{sums, sums_of, is_of, plus, alone, no_sums}
use Rattle.metrics.specs.Days.{busy_on}

greatest-append : (f : Placed → ℕ) (xs ys : List Placed) → greatest f (xs ++ ys) ≡ max (greatest f xs) (greatest f ys)
greatest-append f [] ys = omega arith
greatest-append f (x ∷ xs) ys = let ih = greatest-append f xs ys in omega (arith, ih)

earlier-assoc : (a : ℕ) (b c : Option ℕ) → earlier_of (Some a) (earlier_of b c) ≡ earlier_of (earlier_of (Some a) b) c
earlier-assoc a None None = refl
earlier-assoc a None (Some c) = refl
earlier-assoc a (Some b) None = refl
earlier-assoc a (Some b) (Some c) = let e : min a (min b c) ≡ min (min a b) c = omega arith in ap (λ n. Some n) e

least_submit-append : (xs ys : List Placed) → least_submit (xs ++ ys) ≡ earlier_of (least_submit xs) (least_submit ys)
least_submit-append [] ys = refl
least_submit-append (x ∷ xs) ys = ap (earlier_of (Some x.job.submit)) (least_submit-append xs ys) ∙ earlier-assoc x.job.submit (least_submit xs) (least_submit ys)

later-assoc : (a : ℕ) (b c : Option ℕ) → later_of (Some a) (later_of b c) ≡ later_of (later_of (Some a) b) c
later-assoc a None None = refl
later-assoc a None (Some c) = refl
later-assoc a (Some b) None = refl
later-assoc a (Some b) (Some c) = let e : max a (max b c) ≡ max (max a b) c = omega arith in ap (λ n. Some n) e

greatest_end-append : (xs ys : List Placed) → greatest_end (xs ++ ys) ≡ later_of (greatest_end xs) (greatest_end ys)
greatest_end-append [] ys = refl
greatest_end-append (x ∷ xs) ys = ap (later_of (Some (real_end x))) (greatest_end-append xs ys) ∙ later-assoc (real_end x) (greatest_end xs) (greatest_end ys)

-- the sums over all jobs of two lists are those over the one joined with those over the other
pub totals-append : (xs ys : List Placed) → totals (xs ++ ys) ≡ joined (totals xs) (totals ys)
totals-append xs ys =
    let a = length-append xs ys in
    let b = sum_by-append (λ (p : Placed). cond p.job.killed 1 0) xs ys in
    let c = sum_by-append wait xs ys in
    let d = sum_by-append (λ (p : Placed). p.job.length) xs ys in
    let e = sum_by-append slowdown xs ys in
    let f = sum_by-append busy xs ys in
    let g = greatest-append wait xs ys in
    let h = least_submit-append xs ys in
    let k = greatest_end-append xs ys in
    λ i. record { count = a i; killed = b i; wait = c i; length = d i; slowdown = e i; busy = f i; greatest_wait = g i; least_submit = h i; greatest_end = k i }

sums-append : (xs ys : List Placed) → sums (xs ++ ys) ≡ plus (sums xs) (sums ys)
sums-append xs ys =
    let a = length-append xs ys in
    let c = sum_by-append wait xs ys in
    let e = sum_by-append slowdown xs ys in
    let f = sum_by-append busy xs ys in
    λ i. record { count = a i; wait = c i; slowdown = e i; busy = f i }

-- a user's sums over two lists of jobs are those over the one and over the other, added
pub sums_of-append : (u : ℤ) (xs ys : List Placed) → sums_of u (xs ++ ys) ≡ plus (sums_of u xs) (sums_of u ys)
sums_of-append u xs ys = ap sums (filter-append (is_of u) xs ys) ∙ sums-append (filter (is_of u) xs) (filter (is_of u) ys)

-- the processor-seconds that two lists of jobs take in a day are those of the one and of the other
pub busy_on-append : (q : ℕ) (xs ys : List Placed) → busy_on q (xs ++ ys) ≡ busy_on q xs + busy_on q ys
busy_on-append q xs ys = sum_by-append (busy_in q) xs ys

-- the sums over a list of one job are the job's own
pub totals-one : (p : Placed) → totals (p ∷ []) ≡ totals_alone p
totals-one p =
    let w : max (wait p) 0 ≡ wait p = omega arith in
    let n : (m : ℕ) → 0 + m ≡ m = λ m. omega arith in
    λ i. record { count = 1; killed = n (cond p.job.killed 1 0) i; wait = n (wait p) i; length = n p.job.length i; slowdown = n (slowdown p) i; busy = n (busy p) i; greatest_wait = w i; least_submit = Some p.job.submit; greatest_end = Some (real_end p) }

-- a user's sums over a list of one job are the job's own where it is the user's, and otherwise none
pub sums_of-one : (u : ℤ) (p : Placed) → sums_of u (p ∷ []) ≡ cond (is_of u p) (alone p) no_sums
sums_of-one u p = elim (is_of u p) as (λ b. sums (cond b (p ∷ []) []) ≡ cond b (alone p) no_sums) [
  | true ↦ let n : (m : ℕ) → 0 + m ≡ m = λ m. omega arith in λ i. record { count = 1; wait = n (wait p) i; slowdown = n (slowdown p) i; busy = n (busy p) i }
  | false ↦ refl
]
