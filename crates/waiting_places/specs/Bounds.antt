-- What is known of those below a node of the tree: a lower bound on the Pareto frontier of their sizes and estimates.
use Rattle.std.specs.Prelude.{◌≡◌, Option, None, Some, ℕ, ◌≤◌, ◌<◌, Bool, true, List, slice_index_or}
use Rattle.waiting_places.specs.declared.corner.Corner.{Corner}
use Rattle.waiting_places.specs.declared.offer.Offer.{Offer}
use Rattle.waiting_places.specs.Offers.{fits}

-- Whether it is stale, which says nothing of those below it; how many corners there are, and the corners. What stands behind these
-- says nothing either.
pub record FrontierView : Type 0 where
  pub stale : Bool
  pub len : ℕ
  pub corners : List Corner

-- a corner, counted from 0
abbrev pub at_corner : List Corner → ℕ → Corner
at_corner corners k = slice_index_or corners k (record { size = 0; estimate = 0 })

abbrev pub corner_at : FrontierView → ℕ → Corner
corner_at f k = at_corner f.corners k

-- at most 64 corners, none of them larger than one behind it
pub record IsFrontier (len : ℕ) (corners : List Corner) : Type 0 where
  pub few : len ≤ 64
  pub rises : (i j : ℕ) → i ≤ j → j < len → (at_corner corners i).size ≤ (at_corner corners j).size

-- one of this size and estimate is at least as large and at least as long as a corner
pub record IsBelow (f : FrontierView) (size estimate : ℕ) : Type 0 where
  pub corner : ℕ
  pub there : corner < f.len
  pub small : (corner_at f corner).size ≤ size
  pub short : (corner_at f corner).estimate ≤ estimate

-- whoever is above the one frontier, as large and as long as one of its corners, is above the other too
abbrev pub Keeps : FrontierView → FrontierView → Type 0
Keeps old new = (size estimate : ℕ) → IsBelow old size estimate → IsBelow new size estimate

-- the frontier is below all who wait at these places
abbrev pub AreBelow : {X : Type 0} → (X → ℕ) → (X → ℕ) → FrontierView → List (Option X) → Type 0
AreBelow {X} size estimate f places = (p : ℕ) (x : X) → slice_index_or places p None ≡ Some x → IsBelow f (size x) (estimate x)

-- one of the size and estimate of a corner fits the offer
pub record MayFit (offer : Offer) (f : FrontierView) : Type 0 where
  pub corner : ℕ
  pub there : corner < f.len
  pub fit : fits (λ (c : Corner). c.size) (λ c. c.estimate) offer (corner_at f corner) ≡ true

-- the place of a size: none in front of it is larger, and none from there on is smaller
pub record IsPlace (f : FrontierView) (size place : ℕ) : Type 0 where
  pub within : place ≤ f.len
  pub front : (k : ℕ) → k < place → (corner_at f k).size ≤ size
  pub behind : (k : ℕ) → place ≤ k → k < f.len → size ≤ (corner_at f k).size

-- all from one place to another are at least so long
pub record AreAsLong (f : FrontierView) (estimate from to : ℕ) : Type 0 where
  pub ahead : from ≤ to
  pub within : to ≤ f.len
  pub long : (k : ℕ) → from ≤ k → k < to → estimate ≤ (corner_at f k).estimate
