-- Whether a number is among those that rise.
use Rattle.std.proofs.Common.{◌≡◌, ℕ, suc, ◌<◌, ◌≤◌, false, eqb, nat_cmp, List, [], ◌∷◌, length, get_or, Result, Ok, Err, inl, inr, refl, sym, arith}
use Rattle.std.specs.List.{list_any}
use Rattle.std.specs.Result.{is_ok}
use Rattle.std.specs.List.Sorted.{IsBinarySearchResult}
use Rattle.std.proofs.lemmas.Bool.{ne_eqb, eq-eqb, cases_lt}
use Rattle.std.proofs.lemmas.List.Folds.{list_any_at}
use Rattle.std.proofs.lemmas.List.Sorted.{searched}
use Rattle.swf_text.specs.Seen.{AreRising}

pub absent : (xs : List ℕ) (n : ℕ) → ((k : ℕ) → k < length xs → eqb (get_or xs k 0) n ≡ false) → list_any (λ m. eqb m n) xs ≡ false
absent [] n h = refl
absent (x ∷ xs) n h = let here : eqb x n ≡ false = h 0 (omega arith) in rw here (absent xs n (λ k lt. h (suc k) (omega arith)))

-- a number that is greater than all of these is none of them
pub greater_absent : (xs : List ℕ) (n : ℕ) → ((k : ℕ) → k < length xs → get_or xs k 0 < n) → false ≡ list_any (λ m. eqb m n) xs
greater_absent xs n h = sym (absent xs n (λ k lt. ne_eqb (get_or xs k 0) n (λ same. absurd (omega (arith, h k lt)))))

-- a binary search of rising numbers finds a number exactly where it is one of them
pub searched_any : (xs : List ℕ) (n : ℕ) (r : Result ℕ ℕ) → AreRising xs → IsBinarySearchResult (λ y. nat_cmp y n) xs r → is_ok r ≡ list_any (λ m. eqb m n) xs
searched_any xs n (Ok i) rise h = let f = searched xs n (Ok i) h rise in sym (list_any_at (λ m. eqb m n) xs i 0 f.0 (eq-eqb (get_or xs i 0) n f.1))
searched_any xs n (Err i) rise h = let f = searched xs n (Err i) h rise in sym (absent xs n (apart f.1 f.2))
  where
    apart : ((k : ℕ) → k < i → get_or xs k 0 < n) → ((k : ℕ) → i ≤ k → k < length xs → n < get_or xs k 0) → (k : ℕ) → k < length xs → eqb (get_or xs k 0) n ≡ false
    apart below above k lt = elim (cases_lt k i) [
      | inl before ↦ ne_eqb (get_or xs k 0) n (λ same. absurd (omega (arith, below k before)))
      | inr after ↦ ne_eqb (get_or xs k 0) n (λ same. absurd (omega (arith, above k after lt)))
    ]
