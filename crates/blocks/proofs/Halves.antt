-- What one element tells of the place before which all pass.
use Rattle.std.proofs.Common.{◌≡◌, ℕ, zero, suc, ◌+◌, ◌<◌, ◌≤◌, Bool, true, false, List, [], ◌∷◌, length, get_or, refl, arith}
use Rattle.std.specs.List.Sorted.{IsPartitionedBy}
use Rattle.blocks.proofs.Places.{parted-rest, place}

module _ {X : Type 0} (test : X → Bool) where
  -- no more elements pass before the first that doesn't than there are
  pub place-within : (xs : List X) → place test xs ≤ length xs
  place-within [] = omega arith
  place-within (x ∷ xs) = go (test x) refl (place-within xs)
    where
      go : (b : Bool) → test x ≡ b → place test xs ≤ length xs → place test (x ∷ xs) ≤ length (x ∷ xs)
      go true e h = rw e (omega (arith, h))
      go false e h = rw e (omega arith)

  -- the place of the first that doesn't pass comes behind one that passes
  pub place-behind : (xs : List X) (i : ℕ) (d : X) → IsPartitionedBy test xs → i < length xs → test (get_or xs i d) ≡ true → i + 1 ≤ place test xs
  place-behind [] i d p lt t = absurd (omega (arith, lt))
  place-behind (x ∷ xs) zero d p lt t = rw t (omega arith)
  place-behind (x ∷ xs) (suc i) d p lt t =
      let front : test x ≡ true = p zero (suc i) d (omega arith) lt t in
      let rest : i + 1 ≤ place test xs = place-behind xs i d (parted-rest test (x ∷ []) xs p) (omega (arith, lt)) t in
      rw front (omega (arith, rest))

  -- the place of the first that doesn't pass comes no later than one that doesn't
  pub place-ahead : (xs : List X) (i : ℕ) (d : X) → i < length xs → test (get_or xs i d) ≡ false → place test xs ≤ i
  place-ahead [] i d lt f = absurd (omega (arith, lt))
  place-ahead (x ∷ xs) zero d lt f = rw f (omega arith)
  place-ahead (x ∷ xs) (suc i) d lt f = go (test x) refl (place-ahead xs i d (omega (arith, lt)) f)
    where
      go : (b : Bool) → test x ≡ b → place test xs ≤ i → place test (x ∷ xs) ≤ suc i
      go true e h = rw e (omega (arith, h))
      go false e h = rw e (omega arith)
