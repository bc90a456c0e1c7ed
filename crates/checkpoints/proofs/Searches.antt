-- A number looked up in a list that rises by number: it stands at the place before which the numbers are less, or nowhere.
use Rattle.std.proofs.Common.{◌≡◌, ℕ, zero, suc, ◌≤◌, ◌<◌, Bool, true, false, nat_eq, nat_lt, List, [], ◌∷◌, length, get_or, Some, None, All, find, refl, sym, ◌∙◌, ap, arith, ⊎_elim}
use Rattle.std.specs.List.Sorted.{IsNonDecreasingBy, IsPartitionPoint}
use Rattle.std.proofs.lemmas.Bool.{cond-true, cond-false, eq-eqb, ne_eqb, ltb-true, ltb-false, cases_lt}
use Rattle.std.proofs.lemmas.List.{get_or_default}
use Rattle.std.proofs.lemmas.List.Elements.{All-head, All-tail}

module _ {X : Type 0} (number : X → ℕ) where
  abbrev pub has : ℕ → X → Bool
  has n x = nat_eq (number x) n

  -- whether an element's number is less than n
  abbrev pub is_less : ℕ → X → Bool
  is_less n x = nat_lt (number x) n

  abbrev pub IsPlaceOf : ℕ → List X → ℕ → Type 0
  IsPlaceOf n xs i = IsPartitionPoint (λ x. is_less n x ≡ true) (λ x. is_less n x ≡ false) xs i

  find-here : (xs : List X) (n i : ℕ) (d : X) → ((k : ℕ) (e : X) → k < i → is_less n (get_or xs k e) ≡ true) → i < length xs → number (get_or xs i d) ≡ n → find (has n) xs ≡ Some (get_or xs i d)
  find-here [] n i d less l same = absurd (omega arith)
  find-here (x ∷ xs) n zero d less l same = cond-true (has n x) (Some x) (find (has n) xs) (eq-eqb (number x) n same)
  find-here (x ∷ xs) n (suc i) d less l same =
      let first = ltb-true (number x) n (less zero x (omega arith)) in
      cond-false (has n x) (Some x) (find (has n) xs) (ne_eqb (number x) n (λ e. omega (arith, first, e)))
      ∙ find-here xs n i d (λ k e m. less (suc k) e (omega arith)) (omega arith) same

  find-nowhere : (xs : List X) (n : ℕ) → All (λ x. number x ≡ n → ⊥) xs → find (has n) xs ≡ None
  find-nowhere [] n none = refl
  find-nowhere (x ∷ xs) n none =
      let Other : X → Type 0 = λ y. number y ≡ n → ⊥ in
      cond-false (has n x) (Some x) (find (has n) xs) (ne_eqb (number x) n (All-head Other x xs none)) ∙ find-nowhere xs n (All-tail Other x xs none)

  -- where the element at the place has the number, it is the one found
  pub found-there : (xs : List X) (n i : ℕ) (x : X) → IsPlaceOf n xs i → i < length xs → x ≡ get_or xs i x → number x ≡ n → find (has n) xs ≡ Some x
  found-there xs n i x point l at same = find-here xs n i x (λ k e m. point.0 k e (omega arith) m) l (ap number (sym at) ∙ same) ∙ ap Some (sym at)

  -- where the element at the place has another number, none is found in a list that rises
  pub other-there : (xs : List X) (n i : ℕ) (x : X) → IsPlaceOf n xs i → IsNonDecreasingBy number xs → i < length xs → x ≡ get_or xs i x → (number x ≡ n → ⊥) → find (has n) xs ≡ None
  other-there xs n i x point rising l at other =
      let here = ap number at in
      let high = ltb-false (number (get_or xs i x)) n (point.1 i x (omega arith) l) in
      find-nowhere xs n (λ k d m e.
      ⊎_elim
      (λ (low : k < i). let less = ltb-true (number (get_or xs k d)) n (point.0 k d (omega arith) low) in omega (arith, less, e))
      (λ (le : i ≤ k).
      let up = rising i k d le m in
      let there = ap number (get_or_default xs i d x l) in
      other (omega (arith, up, e, here, high, there)))
      (cases_lt k i))

  -- where the place is the end of the list, none is found
  pub none-there : (xs : List X) (n i : ℕ) → IsPlaceOf n xs i → length xs ≤ i → find (has n) xs ≡ None
  none-there xs n i point l = find-nowhere xs n (λ k d m e. let less = ltb-true (number (get_or xs k d)) n (point.0 k d (omega arith) (omega arith)) in omega (arith, less, e))
