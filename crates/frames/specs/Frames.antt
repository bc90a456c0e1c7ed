-- The lists that stand at neighbouring places, in one: each item once, with the stretch of places at which it stands.
use Rattle.std.specs.Prelude.{◌≡◌, ℕ, Bool, ◌&&◌, nat_le, nat_lt, if◌then◌else◌, List, [], ◌∷◌, map, filter}
use Rattle.frames.specs.declared.stretch.Stretch.{Stretch}

module _ {X : Type 0} where
  -- the item stands at place 0 alone
  abbrev pub once : X → Stretch X
  once x = record { item = x; from = 0; to = 1 }

  -- the item of this stretch stands at a place: from its first place on, and before the place behind its last
  abbrev pub stands : ℕ → Stretch X → Bool
  stands place s = nat_le s.from place && nat_lt place s.to

  -- the items that stand at a place, in the order of the stretches
  abbrev pub standing_at : ℕ → List (Stretch X) → List X
  standing_at place stretches = map (λ s. s.item) (filter (stands place) stretches)

  -- it stands at some place
  abbrev pub stands_somewhere : Stretch X → Bool
  stands_somewhere s = nat_lt s.from s.to

-- without the stretches that stand nowhere, the same items stand at each place
abbrev pub EmptyStretchesStandNowhere : Type 0 → Type 0
EmptyStretchesStandNowhere X = (place : ℕ) (stretches : List (Stretch X)) → standing_at place (filter stands_somewhere stretches) ≡ standing_at place stretches

module _ {X : Type 0} (key : X → ℕ) where
  -- one more item, before the first whose key is not smaller
  abbrev pub with_key : X → List X → List X
  with_key x [] = x ∷ []
  with_key x (y ∷ ys) = if nat_le (key x) (key y) then x ∷ y ∷ ys else y ∷ with_key x ys

  -- the items in the order of their keys; those of one key stay as they stand
  abbrev pub by_key : List X → List X
  by_key [] = []
  by_key (x ∷ xs) = with_key x (by_key xs)
