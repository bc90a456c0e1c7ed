-- Who ends leaves the row: what is added up over it and the others, and that the others stand as they stood.
use Rattle.std.proofs.Common.{◌≡◌, ℕ, ◌+◌, ◌≤◌, Bool, true, false, cond, List, [], ◌∷◌, All, Some, None, filter, find, sum_by, refl, sym, ap, arith, subst}
use Rattle.std.proofs.lemmas.List.Sums.{sum_by-cons}
use Rattle.std.proofs.lemmas.List.Elements.{All-cons, All-head, All-tail}
use Rattle.std.proofs.lemmas.Bool.{cond_both, cond-false}
use Rattle.blocks.specs.Rows.{without_first}
use Rattle.scenarios.specs.declared.placed.Placed.{Placed}
use Rattle.cluster_state.specs.Ends.{EndsSooner, RisesByEnd}

module _ {X : Type 0} (test : X → Bool) where
  -- the value of the first that passes, and the sum over the others, are the sum over all
  pub sum_by-leaves : (f : X → ℕ) (xs : List X) (x : X) → find test xs ≡ Some x → f x + sum_by f (without_first test xs) ≡ sum_by f xs
  sum_by-leaves f [] x e = cc
  sum_by-leaves f (y ∷ ys) x e =
      elim (test y) as (λ b. cond b (Some y) (find test ys) ≡ Some x → f x + sum_by f (cond b ys (y ∷ without_first test ys)) ≡ sum_by f (y ∷ ys)) [
        | true ↦ λ h. (let same : y ≡ x = cc in omega (arith, ap f same, sum_by-cons f y ys))
        | false ↦ λ h. omega (arith, sum_by-leaves f ys x h, sum_by-cons f y ys, sum_by-cons f y (without_first test ys))
      ] e

  -- a sum without the first that passes is at most the sum over all
  pub sum_by-others : (f : X → ℕ) (xs : List X) → sum_by f (without_first test xs) ≤ sum_by f xs
  sum_by-others f [] = omega arith
  sum_by-others f (y ∷ ys) =
      cond_both (test y) ys (y ∷ without_first test ys) (λ l. sum_by f l ≤ sum_by f (y ∷ ys))
      (λ _. omega (arith, sum_by-cons f y ys))
      (λ _. omega (arith, sum_by-others f ys, sum_by-cons f y ys, sum_by-cons f y (without_first test ys)))

  -- where none is found, none that passes is counted
  pub none-found : (xs : List X) → find test xs ≡ None → sum_by (λ x. cond (test x) 1 0) xs ≡ 0
  none-found [] e = refl
  none-found (y ∷ ys) e =
      let k = sum_by-cons (λ x. cond {A = ℕ} (test x) 1 0) y ys in
      elim (test y) as (λ b. cond b (Some y) (find test ys) ≡ None → sum_by (λ x. cond (test x) 1 0) (y ∷ ys) ≡ cond b 1 0 + sum_by (λ x. cond (test x) 1 0) ys → sum_by (λ x. cond (test x) 1 0) (y ∷ ys) ≡ 0) [
        | true ↦ λ h s. cc
        | false ↦ λ h s. omega (arith, s, none-found ys h)
      ] e k

  pub All-others : (P : X → Type 0) (xs : List X) → All P xs → All P (without_first test xs)
  All-others P [] a = a
  All-others P (y ∷ ys) a =
      cond_both (test y) ys (y ∷ without_first test ys) (λ l. All P l)
      (λ _. All-tail P y ys a)
      (λ _. All-cons P y (without_first test ys) (All-head P y ys a) (All-others P ys (All-tail P y ys a)))

  -- where the first that passes fails another test, those that pass this one are the same without it
  pub filter-leaves : (p : X → Bool) (xs : List X) (x : X) → find test xs ≡ Some x → p x ≡ false → filter p (without_first test xs) ≡ filter p xs
  filter-leaves p [] x e fails = refl
  filter-leaves p (y ∷ ys) x e fails =
      elim (test y) as (λ b. cond b (Some y) (find test ys) ≡ Some x → filter p (cond b ys (y ∷ without_first test ys)) ≡ filter p (y ∷ ys)) [
        | true ↦ λ h. (let same : x ≡ y = cc in sym (cond-false (p y) (y ∷ filter p ys) (filter p ys) (subst (λ z. p z ≡ false) same fails)))
        | false ↦ λ h. ap (λ l. cond (p y) (y ∷ l) l) (filter-leaves p ys x h fails)
      ] e

-- a row in which each is expected to end sooner than all behind it stays so without the first that passes a test
pub rises-others : (test : Placed → Bool) (runners : List Placed) → RisesByEnd runners → RisesByEnd (without_first test runners)
rises-others test [] h = tt
rises-others test (x ∷ xs) h =
    cond_both (test x) xs (x ∷ without_first test xs) RisesByEnd
    (λ _. h.1)
    (λ _. (All-others test (EndsSooner x) xs h.0, rises-others test xs h.1))
