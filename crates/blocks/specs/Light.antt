-- The first item from a place on that weighs at most so much.
use Rattle.std.specs.Prelude.{◌≡◌, ℕ, ◌≤◌, ◌<◌, Bool, true, false, nat_le, List, slice_get, Option, None, Some}
use Rattle.blocks.specs.Rows.{passes}

module _ {X : Type 0} (weigh : X → ℕ) (limit : ℕ) (xs : List X) where
  -- the item at a place weighs at most so much; there is none past the last one
  abbrev pub is_light : ℕ → Bool
  is_light place = passes (λ x. nat_le (weigh x) limit) (slice_get xs place)

  -- none of the places from one to another has such an item
  abbrev pub NoneLight : ℕ → ℕ → Type 0
  NoneLight from to = (place : ℕ) → from ≤ place → place < to → is_light place ≡ false

  -- the first place from one to another that has one; None where there is none
  abbrev pub IsFirstLight : ℕ → ℕ → Option ℕ → Type 0
  IsFirstLight from to None = NoneLight from to
  IsFirstLight from to (Some k) = (from ≤ k) × (k < to) × (is_light k ≡ true) × NoneLight from k

  -- none of the places from one to an end has such an item, as far as places before another one go
  abbrev pub NoneWithin : ℕ → ℕ → ℕ → Type 0
  NoneWithin from end to = (place : ℕ) → from ≤ place → place < end → place < to → is_light place ≡ false

  -- the first place from one to an end that has one; None where there is none among the places before another one
  abbrev pub IsFirstUntil : ℕ → ℕ → ℕ → Option ℕ → Type 0
  IsFirstUntil from end to None = NoneWithin from end to
  IsFirstUntil from end to (Some k) = IsFirstLight from end (Some k)
