-- Who waits at the first place that passes.
use Rattle.std.proofs.Common.{◌≡◌, ℕ, zero, suc, Bool, is_some, List, [], ◌∷◌, length, drop, find, slice_get, Option, None, Some, refl, sym, ◌∙◌, ap, arith}
use Rattle.std.proofs.lemmas.Bool.{cond-true, cond-false, true≢false}
use Rattle.waiting_places.specs.Offers.{holds}
use Rattle.waiting_places.specs.Places.{IsFirst, NonePasses, at_place, found_at, waiting}
use Rattle.waiting_places.proofs.Standing.{first_waits, nobody}

module _ {X : Type 0} (test : X → Bool) where
  behind : (o : Option X) (xs : List (Option X)) (n : ℕ) → NonePasses (holds test) (o ∷ xs) 0 (suc n) → NonePasses (holds test) xs 0 n
  behind o xs n none p l u = none (suc p) (omega arith) (omega arith)

  found_all : (xs : List (Option X)) (r : Option ℕ) → IsFirst (holds test) xs 0 (length xs) r → found_at xs r ≡ find test (waiting xs)
  found_all [] None first = refl
  found_all [] (Some k) first = let l = first.1 in absurd (omega (arith, l))
  found_all (None ∷ xs) None none = found_all xs None (behind None xs (length xs) (λ p l u. none p l (omega (arith, u))))
  found_all (None ∷ xs) (Some zero) first = absurd (true≢false (sym first.2))
  found_all (None ∷ xs) (Some (suc k)) first = let l = first.1 in found_all xs (Some k) (omega arith, omega (arith, l), first.2, behind None xs k first.3)
  found_all (Some x ∷ xs) None none =
      found_all xs None (behind (Some x) xs (length xs) (λ p l u. none p l (omega (arith, u)))) ∙ sym (cond-false (test x) (Some x) (find test (waiting xs)) (none 0 (omega arith) (omega arith)))
  found_all (Some x ∷ xs) (Some zero) first = sym (cond-true (test x) (Some x) (find test (waiting xs)) first.2)
  found_all (Some x ∷ xs) (Some (suc k)) first =
      let l = first.1 in
      found_all xs (Some k) (omega arith, omega (arith, l), first.2, behind (Some x) xs k first.3) ∙ sym (cond-false (test x) (Some x) (find test (waiting xs)) (first.3 0 (omega arith) (omega arith)))

  -- what is found at the first place, from one on, whose job passes the test is the first job waiting from there on that passes it
  pub found_fit : (xs : List (Option X)) (from : ℕ) (r : Option ℕ) → IsFirst (holds test) xs from (length xs) r → found_at xs r ≡ find test (waiting (drop from xs))
  found_fit xs zero r first = found_all xs r first
  found_fit [] (suc n) None first = refl
  found_fit [] (suc n) (Some k) first = let l = first.1 in absurd (omega (arith, l))
  found_fit (o ∷ xs) (suc n) None none = found_fit xs n None (λ p l u. none (suc p) (omega arith) (omega arith))
  found_fit (o ∷ xs) (suc n) (Some zero) first = let l = first.0 in absurd (omega (arith, l))
  found_fit (o ∷ xs) (suc n) (Some (suc k)) first =
      let l = first.0 in
      let u = first.1 in
      found_fit xs n (Some k) (omega (arith, l), omega (arith, u), first.2, λ p a b. first.3 (suc p) (omega arith) (omega arith))

module _ {X : Type 0} where
  -- who waits at the first place that passes is the first who waits
  pub found_first : (xs : List (Option X)) (r : Option ℕ) → IsFirst is_some xs 0 (length xs) r → found_at xs r ≡ slice_get (waiting xs) 0
  found_first xs None none = sym (ap (λ (ys : List X). slice_get ys 0) (nobody xs none))
  found_first xs (Some k) first = go (at_place xs k) refl
    where
      go : (o : Option X) → at_place xs k ≡ o → at_place xs k ≡ slice_get (waiting xs) 0
      go None is = absurd (true≢false (sym first.2 ∙ ap is_some is))
      go (Some x) is = is ∙ sym (ap (λ (ys : List X). slice_get ys 0) (first_waits xs k x first is))
