-- What is known of those who wait at the first places of a list.
use Rattle.std.proofs.Common.{◌≡◌, ℕ, zero, suc, [], ◌∷◌, ◌+◌, ◌≤◌, ◌<◌, List, length, IfSome, slice_index_or, Option, None, Some, ◌∙◌, arith, subst, ⊎_elim}
use Rattle.std.proofs.lemmas.Bool.{cases_lt}
use Rattle.std.proofs.lemmas.List.{get_or_default}
use Rattle.waiting_places.specs.Bounds.{FrontierView, IsBelow, Keeps}

module _ {X : Type 0} where
  abbrev pub FirstAre : (X → Type 0) → List (Option X) → ℕ → Type 0
  FirstAre P places count = (p : ℕ) (x : X) → p < count → slice_index_or places p None ≡ Some x → P x

  pub one_of : (P Q : X → Type 0) (places : List (Option X)) (count : ℕ) → FirstAre P places count → ((x : X) → P x → Q x) → (place : Option X) → count < length places → place ≡ slice_index_or places count place → IfSome place Q → FirstAre Q places (count + 1)
  one_of P Q places count first kept place short e here p x lt is =
      ⊎_elim
      (λ (before : p < count). kept x (first p x before is))
      (λ (after : count ≤ p).
      let same : p ≡ count = omega arith in
      let at : place ≡ Some x = e ∙ get_or_default places count place None short ∙ subst (λ (n : ℕ). slice_index_or places n None ≡ Some x) same is in
      subst (λ (q : Option X). IfSome q Q) at here)
      (cases_lt p count)

module _ {X : Type 0} (size estimate : X → ℕ) where
  -- a frontier is below those who wait at the first places
  abbrev pub FirstAreBelow : FrontierView → List (Option X) → ℕ → Type 0
  FirstAreBelow l places count = FirstAre (λ x. IsBelow l (size x) (estimate x)) places count

  -- one that keeps it is below those at one place more, if it is below who waits there
  pub one_more : (l m : FrontierView) (places : List (Option X)) (count : ℕ) → FirstAreBelow l places count → Keeps l m → (place : Option X) → count < length places → place ≡ slice_index_or places count place → IfSome place (λ x. IsBelow m (size x) (estimate x)) → FirstAreBelow m places (count + 1)
  one_more l m places count first kept place short e here = one_of (λ x. IsBelow l (size x) (estimate x)) (λ x. IsBelow m (size x) (estimate x)) places count first (λ x. kept (size x) (estimate x)) place short e here

  -- who waits has a place
  pub within : (xs : List (Option X)) (n : ℕ) (y : X) → slice_index_or xs n None ≡ Some y → n < length xs
  within [] n y e = cc
  within (o ∷ xs) zero y e = omega arith
  within (o ∷ xs) (suc n) y e = omega (arith, within xs n y e)
