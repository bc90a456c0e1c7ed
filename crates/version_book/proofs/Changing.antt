-- A change of the one scenario with an id: as ids rise, none but that at the place where the id is found has it.
use Rattle.std.proofs.Common.{◌≡◌, ℕ, ◌+◌, ◌<◌, suc, zero, List, [], ◌∷◌, length, set, get_or, refl, sym, ◌∙◌, ap, ap₂, Bool, true, false, cond, ◌==◌, ◌⊎◌, inl, inr, arith}
use Rattle.std.specs.Prelude.{Option, None, Some}
use Rattle.std.specs.List.{position, position_from}
use Rattle.std.proofs.lemmas.Bool.{eqb-true, ne_eqb, cases_order}
use Rattle.std.proofs.lemmas.List.Quantifiers.{position-Some}
use Rattle.std.proofs.lemmas.Iterator.Adapters.{position_from-zero}
use Rattle.version_book.specs.Book.{ShownView}
use Rattle.version_book.specs.Lookups.{AreApart, has_id, with_change}

none-here : (b : Bool) (o : Option ℕ) (n : ℕ) (x y : ShownView) (ys xs : List ShownView) → cond b (Some n) o ≡ None → (o ≡ None → ys ≡ xs) → (cond b y x ∷ ys) ≡ (x ∷ xs)
none-here true o n x y ys xs is h = cc
none-here false o n x y ys xs is h = ap (λ zs. x ∷ zs) (h is)

none-from : (id : ℕ) (f : ShownView → ShownView) (xs : List ShownView) (n : ℕ) → position_from (has_id id) n xs ≡ None → with_change id f xs ≡ xs
none-from id f [] n is = refl
none-from id f (x ∷ xs) n is = none-here (has_id id x) (position_from (has_id id) (n + 1) xs) n x (f x) (with_change id f xs) xs is (none-from id f xs (n + 1))

-- where no scenario has the id, a change of that with the id leaves all as they are
pub change-none : (id : ℕ) (f : ShownView → ShownView) (xs : List ShownView) → position (has_id id) xs ≡ None → xs ≡ with_change id f xs
change-none id f xs is = sym (none-from id f xs 0 (sym (position_from-zero (has_id id) xs) ∙ is))

abbrev Others : ℕ → List ShownView → ℕ → Type 0
Others id xs i = (k : ℕ) (d : ShownView) → k < length xs → (k ≡ i → ⊥) → has_id id (get_or xs k d) ≡ false

no-other : (id : ℕ) (f : ShownView → ShownView) (xs : List ShownView) → ((k : ℕ) (d : ShownView) → k < length xs → has_id id (get_or xs k d) ≡ false) → with_change id f xs ≡ xs
no-other id f [] h = refl
no-other id f (x ∷ xs) h = ap₂ (λ (b : Bool) ys. cond b (f x) x ∷ ys) (h 0 x (omega arith)) (no-other id f xs (λ k d lt. h (suc k) d (omega arith)))

change-here : (id : ℕ) (f : ShownView → ShownView) (xs : List ShownView) (i : ℕ) (d : ShownView) → Others id xs i → i < length xs → has_id id (get_or xs i d) ≡ true → set xs i (f (get_or xs i d)) ≡ with_change id f xs
change-here id f [] i d h lt is = absurd (omega arith)
change-here id f (x ∷ xs) zero d h lt is = sym (ap₂ (λ (b : Bool) ys. cond b (f x) x ∷ ys) is (no-other id f xs (λ k e l. h (suc k) e (omega arith) (λ same. absurd (omega arith)))))
change-here id f (x ∷ xs) (suc i) d h lt is = ap₂ (λ (b : Bool) ys. cond b (f x) x ∷ ys) (sym (h 0 x (omega arith) (λ same. absurd (omega arith)))) (change-here id f xs i d (λ k e l other. h (suc k) e (omega arith) (λ same. other (omega arith))) (omega arith) is)

not-equal : (id a b : ℕ) → (a == id) ≡ true → (a < b) ⊎ (b < a) → (b == id) ≡ false
not-equal id a b is (inl lt) = let same : a ≡ id = eqb-true a id is in ne_eqb b id (λ e. absurd (omega arith))
not-equal id a b is (inr lt) = let same : a ≡ id = eqb-true a id is in ne_eqb b id (λ e. absurd (omega arith))

others-at : (id : ℕ) (xs : List ShownView) (i k : ℕ) (d : ShownView) → AreApart xs → i < length xs → k < length xs → has_id id (get_or xs i d) ≡ true → (k ≡ i) ⊎ ((k < i) ⊎ (i < k)) → (k ≡ i → ⊥) → has_id id (get_or xs k d) ≡ false
others-at id xs i k d apart lt in_xs is (inl same) other = absurd (other same)
others-at id xs i k d apart lt in_xs is (inr (inl before)) other = not-equal id (get_or xs i d).id (get_or xs k d).id is (inr (apart k i d before lt))
others-at id xs i k d apart lt in_xs is (inr (inr after)) other = not-equal id (get_or xs i d).id (get_or xs k d).id is (inl (apart i k d after in_xs))

others : (id : ℕ) (xs : List ShownView) (i : ℕ) → AreApart xs → i < length xs → ((d : ShownView) → has_id id (get_or xs i d) ≡ true) → Others id xs i
others id xs i apart lt is k d in_xs other = others-at id xs i k d apart lt in_xs (is d) (cases_order k i) other

-- where ids rise, a change at the place where the id is found is the change of the scenario with the id
pub change-at : (id : ℕ) (f : ShownView → ShownView) (xs : List ShownView) (i : ℕ) (x : ShownView) → AreApart xs → position (has_id id) xs ≡ Some i → x ≡ get_or xs i x → set xs i (f x) ≡ with_change id f xs
change-at id f xs i x apart at is =
    let found : (d : ShownView) → (i < length xs) × (has_id id (get_or xs i d) ≡ true) × ((k : ℕ) → k < i → has_id id (get_or xs k d) ≡ false) = λ d. position-Some (has_id id) xs i d at in
    let h = others id xs i apart (found x).0 (λ d. (found d).1) in
    ap (λ y. set xs i (f y)) is ∙ change-here id f xs i x h (found x).0 (found x).1
