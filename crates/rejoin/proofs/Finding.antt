-- What a search in rising numbers finds, and what is left of sorted numbers, each once.
use Rattle.std.proofs.Common.{◌≡◌, ℕ, zero, suc, ◌≤◌, ◌<◌, Bool, true, false, cond, nat_eq, nat_lt, count_by, IsTrue, ◌↔◌, All, List, [], ◌∷◌, length, get_or, None, Some, sym, ◌∙◌, subst, arith, ⊎_elim}
use Rattle.std.specs.List.{Contains}
use Rattle.std.specs.List.{AllPairs}
use Rattle.std.specs.List.Retain.{IsFiltered, DiffersFromLast}
use Rattle.std.specs.List.Sorted.{IsNonDecreasing, IsPartitionPoint, IsPermutation, IsSorted, IsStrictlyIncreasing}
use Rattle.std.specs.Ordering.{nat_cmp}
use Rattle.std.proofs.lemmas.List.Sorted.{All-permutation, Contains-permutation, IsPermutation-sym}
use Rattle.std.proofs.lemmas.Bool.{eqb-true, ltb-true, ltb-false, lt-ltb, cases_lt, cases_Bool, cond-true, cond-false, false≢true}
use Rattle.std.proofs.lemmas.List.{get_or_default}
use Rattle.std.proofs.lemmas.List.Elements.{All-contains, All-contains_itself, All-head, All-tail, All-weaker}
use Rattle.std.proofs.lemmas.List.Sums.{sum_by-cons}
use Rattle.std.proofs.lemmas.List.Kept.{AllPairs-from_increasing, Contains-dedup_nat, Contains-from_dedup}
use Rattle.std.proofs.lemmas.List.Filters.{dedup_is}
use Rattle.std.proofs.lemmas.Map.Keys.{IsStrictlyIncreasing-dedup, non_decreasing_from_sorted, sorted_from_strictly_increasing}
use Rattle.rejoin.specs.Search.{IsLeastFrom}
use Rattle.rejoin.specs.Started.{AreSingle, count_before}
use Rattle.rejoin.specs.Tested.{AreThose}

abbrev Parts : List ℕ → ℕ → ℕ → Type 0
Parts ns b i = IsPartitionPoint (λ n. nat_lt n b ≡ true) (λ n. nat_lt n b ≡ false) ns i

-- the number at the place before which the numbers are below a bound is the least that is not below it
pub least-found : (ns : List ℕ) (b i d m : ℕ) → IsNonDecreasing ns → Parts ns b i → i < length ns → m ≡ get_or ns i d → IsLeastFrom ns b (Some m)
least-found ns b i d m rising parts l e = (
  (i, l, get_or_default ns i m d l ∙ sym e),
  (let f = ltb-false (get_or ns i d) b (parts.1 i d (omega arith) l) in omega (arith, f, e)),
  (λ k x w below.
      ⊎_elim
      (λ (lt : k < i). absurd (let t = ltb-true (get_or ns k x) b (parts.0 k x (omega arith) lt) in omega (arith, t, below)))
      (λ (ge : i ≤ k). let r = rising i k x ge w in let s = get_or_default ns i x d l in omega (arith, r, s, e))
      (cases_lt k i)),
)

-- where the place before which the numbers are below a bound is the end, all are below it
pub least-none : (ns : List ℕ) (b i : ℕ) → Parts ns b i → length ns ≤ i → IsLeastFrom ns b None
least-none ns b i parts l k x w = ltb-true (get_or ns k x) b (parts.0 k x (omega arith) (omega (arith, l, w)))

below-count : (b : ℕ) (ns : List ℕ) (i : ℕ) → i ≤ length ns → ((k d : ℕ) → k < i → get_or ns k d < b) → ((k d : ℕ) → i ≤ k → k < length ns → b ≤ get_or ns k d) → i ≡ count_before b ns
below-count b [] i l low high = omega (arith, l)
below-count b (m ∷ ms) zero l low high =
    let more = sum_by-cons (λ (s : ℕ). cond {A = ℕ} (nat_lt s b) 1 0) m ms in
    let first : b ≤ m = high 0 0 (omega arith) (omega arith) in
    let none = cond-false {A = ℕ} (nat_lt m b) 1 0 (not-below m b first) in
    let rest = below-count b ms 0 (omega arith) (λ k d x. absurd (omega (arith, x))) (λ k d x y. high (suc k) d (omega arith) (omega (arith, y))) in
    omega (arith, more, none, rest)
  where
    not-below : (a c : ℕ) → c ≤ a → nat_lt a c ≡ false
    not-below a c k = ⊎_elim (λ (y : nat_lt a c ≡ true). absurd (let z = ltb-true a c y in omega (arith, k, z))) (λ (n : nat_lt a c ≡ false). n) (cases_Bool (nat_lt a c))
below-count b (m ∷ ms) (suc i) l low high =
    let more = sum_by-cons (λ (s : ℕ). cond {A = ℕ} (nat_lt s b) 1 0) m ms in
    let first : m < b = low 0 0 (omega arith) in
    let one = cond-true {A = ℕ} (nat_lt m b) 1 0 (lt-ltb m b first) in
    let rest = below-count b ms i (omega (arith, l)) (λ k d x. low (suc k) d (omega (arith, x))) (λ k d x y. high (suc k) d (omega (arith, x)) (omega (arith, y))) in
    omega (arith, more, one, rest)

-- the place before which the numbers are below a bound is how many are below it
pub partition-count : (ns : List ℕ) (b i : ℕ) → i ≤ length ns → Parts ns b i → i ≡ count_before b ns
partition-count ns b i l parts =
    below-count b ns i l (λ k d x. ltb-true (get_or ns k d) b (parts.0 k d (omega arith) x)) (λ k d x y. let f = ltb-false (get_or ns k d) b (parts.1 k d x y) in f)

-- where all numbers are below n, `false` says whether n is one of them
pub among-none : (ns : List ℕ) (n : ℕ) → IsLeastFrom ns n None → IsTrue false ↔ Contains ns n
among-none ns n h = ((λ t. absurd (false≢true t)), (λ c. absurd (let l : n < n = All-contains (λ m. m < n) ns n h c in omega (arith, l))))

-- n is one of some numbers exactly where the least of them that is not below n is n
pub among-some : (ns : List ℕ) (n m : ℕ) (r : Bool) → IsLeastFrom ns n (Some m) → IsTrue r ↔ (m ≡ n) → IsTrue r ↔ Contains ns n
among-some ns n m r h w = (
  (λ t. subst (Contains ns) (w.0 t) h.0),
  (λ c. w.1 (let l : n ≤ n → m ≤ n = All-contains (λ k. n ≤ k → m ≤ k) ns n h.2 c in let a = l (omega arith) in let b = h.1 in omega (arith, a, b))),
)

-- a list of all numbers of which something is true, and no other, is still one in another order
pub those-permuted : (P : ℕ → Type 0) (ns ms : List ℕ) → IsPermutation ns ms → AreThose P ns → AreThose P ms
those-permuted P ns ms same h = record { each = All-permutation P ns ms same h.each; whole = λ n p. Contains-permutation ns ms n same (h.whole n p) }

none-above : (n : ℕ) (ms : List ℕ) → All (λ k. n < k) ms → count_by (λ k. nat_eq k n) ms ≡ 0
none-above n [] all = omega arith
none-above n (m ∷ ms) all =
    let more = sum_by-cons (λ (k : ℕ). cond {A = ℕ} (nat_eq k n) 1 0) m ms in
    let above : n < m = All-head (λ k. n < k) m ms all in
    let rest = none-above n ms (All-tail (λ k. n < k) m ms all) in
    ⊎_elim
    (λ (here : nat_eq m n ≡ true). absurd (let e = eqb-true m n here in omega (arith, e, above)))
    (λ (other : nat_eq m n ≡ false). let none = cond-false {A = ℕ} (nat_eq m n) 1 0 other in omega (arith, more, none, rest))
    (cases_Bool (nat_eq m n))

single-of : (ns : List ℕ) → AllPairs (λ a b. a < b) ns → AreSingle ns
single-of [] pairs n = omega arith
single-of (m ∷ ms) pairs n =
    let more = sum_by-cons (λ (k : ℕ). cond {A = ℕ} (nat_eq k n) 1 0) m ms in
    let rest = single-of ms (λ i j d x y. pairs (suc i) (suc j) d (omega (arith, x)) (omega (arith, y))) n in
    ⊎_elim
    (λ (here : nat_eq m n ≡ true).
    let one = cond-true {A = ℕ} (nat_eq m n) 1 0 here in
    let above : All (λ k. n < k) ms = subst (λ a. All (λ k. a < k) ms) (eqb-true m n here) (λ k d x. pairs 0 (suc k) d (omega arith) (omega (arith, x))) in
    let none = none-above n ms above in
    omega (arith, more, one, none))
    (λ (other : nat_eq m n ≡ false). let none = cond-false {A = ℕ} (nat_eq m n) 1 0 other in omega (arith, more, none, rest))
    (cases_Bool (nat_eq m n))

-- no number stands twice in a list that increases strictly
pub increasing-single : (ns : List ℕ) → IsStrictlyIncreasing ns → AreSingle ns
increasing-single ns up = single-of ns (AllPairs-from_increasing ns up)

-- numbers that increase strictly never fall
pub increasing-rises : (ns : List ℕ) → IsStrictlyIncreasing ns → IsNonDecreasing ns
increasing-rises ns up = non_decreasing_from_sorted ns (sorted_from_strictly_increasing ns up)

-- what is left of sorted numbers, where one that equals the last one left is left out, increases strictly
pub distinct-left : (ns ms : List ℕ) → IsFiltered (DiffersFromLast nat_eq) [] ns ms → IsSorted nat_cmp ns → IsStrictlyIncreasing ms
distinct-left ns ms left sorted = subst IsStrictlyIncreasing (sym (dedup_is nat_eq ns ms left)) (IsStrictlyIncreasing-dedup ns sorted)

-- numbers that are put in another order, where one that equals the last one left is left out, are the same numbers
pub distinct-same : (all ns ms : List ℕ) → IsPermutation all ns → IsFiltered (DiffersFromLast nat_eq) [] ns ms → (n : ℕ) → Contains all n ↔ Contains ms n
distinct-same all ns ms same left n =
    let is = dedup_is nat_eq ns ms left in (
      (λ c. subst (λ (l : List ℕ). Contains l n) (sym is) (Contains-dedup_nat ns n (Contains-permutation all ns n same c))),
      (λ c. Contains-permutation ns all n (IsPermutation-sym all ns same) (Contains-from_dedup nat_eq ns n (subst (λ (l : List ℕ). Contains l n) is c))),
    )

-- a list of all numbers of which something is true, and no other, can be any list with the same numbers
pub those-distinct : (P : ℕ → Type 0) (ns ms : List ℕ) → ((n : ℕ) → Contains ns n ↔ Contains ms n) → AreThose P ns → AreThose P ms
those-distinct P ns ms same h = record {
  each = All-weaker (Contains ms) P (λ n c. All-contains P ns n h.each ((same n).1 c)) ms (All-contains_itself ms);
  whole = λ n p. (same n).0 (h.whole n p);
}
