-- Those who wait, each at a place of its own in order of arrival; who left has left its place empty.
use Rattle.std.specs.Prelude.{◌≡◌, ℕ, ◌*◌, ◌^◌, ◌≤◌, ◌<◌, Bool, false, true, max, List, length, slice_index_or, take, is_some, Option, None, Some}
use Rattle.std.specs.List.{filter_map}
use Rattle.waiting_places.specs.declared.refused.Refused.{Refused}
use Rattle.waiting_places.specs.Bounds.{FrontierView}
use Rattle.waiting_places.specs.Offers.{fits, holds}
use Rattle.waiting_places.specs.Tree.{IsTree, covered}

-- What callers see: the places, and how many more surely find capacity.
pub record PlacesView (X : Type 0) : Type 0 where
  pub places : List (Option X)
  pub spare : ℕ

module _ {X : Type 0} where
  -- those who wait at these places, in order
  abbrev pub waiting : List (Option X) → List X
  waiting places = filter_map (λ place. place) places

  -- who waits at a place
  abbrev pub at_place : List (Option X) → ℕ → Option X
  at_place places place = slice_index_or places place None

  -- who waits at a place, if there is one
  abbrev pub found_at : List (Option X) → Option ℕ → Option X
  found_at places None = None
  found_at places (Some place) = at_place places place

  -- how many wait before a place
  abbrev pub rank : List (Option X) → ℕ → ℕ
  rank places place = length (waiting (take place places))

module _ {X : Type 0} (test : Option X → Bool) (places : List (Option X)) where
  -- no place from one to another passes
  abbrev pub NonePasses : ℕ → ℕ → Type 0
  NonePasses from to = (place : ℕ) → from ≤ place → place < to → test (at_place places place) ≡ false

  -- the first place from one to another that passes; None where none does
  abbrev pub IsFirst : ℕ → ℕ → Option ℕ → Type 0
  IsFirst from to None = NonePasses from to
  IsFirst from to (Some k) = (from ≤ k) × (k < to) × (test (at_place places k) ≡ true) × NonePasses from k

-- nobody waits before this place, and one waits there, or it is behind the last
pub record IsHead {X : Type 0} (places : List (Option X)) (head : ℕ) : Type 0 where
  pub front : head ≤ length places
  pub ahead : (place : ℕ) → place < head → at_place places place ≡ None
  pub met : head < length places → is_some (at_place places head) ≡ true

-- how many places there may be beside so many nodes: without a tree at most 128, and 64 for each leaf
abbrev pub capacity_of : ℕ → ℕ
capacity_of nodes = max 128 (32 * nodes)

-- nobody from one place to another fits the offer
pub record IsRefused {X : Type 0} (size estimate : X → ℕ) (places : List (Option X)) (refused : Refused) : Type 0 where
  pub within : refused.to ≤ length places
  pub none : NonePasses (holds (fits size estimate refused.offer)) places refused.from refused.to

-- what the fields keep: how many wait, the place of the first, capacity, a tree of lower bounds where there are many places, and
-- what a search left behind
pub record IsPlaces {X : Type 0} (size estimate : X → ℕ) (places : List (Option X)) (nodes : List FrontierView) (len head capacity : ℕ) (refused : Refused) : Type 0 where
  pub count : len ≡ length (waiting places)
  pub first : IsHead places head
  pub fit : length places ≤ capacity
  pub list : length places ≤ capacity_of (length nodes)
  pub few : length nodes ≤ 2 ^ 40
  pub tree : 1 ≤ length nodes → IsTree size estimate nodes (covered places)
  pub unfit : IsRefused size estimate places refused
