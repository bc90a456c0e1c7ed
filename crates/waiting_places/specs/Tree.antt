-- A complete tree of lower bounds over places, 64 to a leaf: node 1 is the root, the nodes 2 k and 2 k + 1 stand below node k, and the
-- leaves are the second half of the nodes, in the order of their places.
use Rattle.std.specs.Prelude.{◌≡◌, ℕ, zero, suc, ◌+◌, ◌*◌, ◌/◌, ◌^◌, ◌≤◌, false, List, [], length, slice_index_or, take, Option, None, Some}
use Rattle.waiting_places.specs.Bounds.{FrontierView, IsBelow}

-- a number that is halved so often, rounded down each time
abbrev pub halved : ℕ → ℕ → ℕ
halved zero n = n
halved (suc times) n = halved times n / 2

-- what is known below a node; where there is no node, nothing but that all are at least 0
abbrev pub node_at : List FrontierView → ℕ → FrontierView
node_at nodes k = slice_index_or nodes k (record { stale = false; len = 1; corners = [] })

-- the leaf of a place, by how many nodes there are
abbrev pub leaf_of : ℕ → ℕ → ℕ
leaf_of count place = count / 2 + place / 64

-- the places of whole leaves: those of a last leaf that isn't full stand in no tree
abbrev pub covered : {X : Type 0} → List (Option X) → List (Option X)
covered places = take (64 * (length places / 64)) places

-- twice as many nodes as leaves, which are a power of two
pub record IsWhole (count : ℕ) : Type 0 where
  pub height : ℕ
  pub power : count ≡ 2 * 2 ^ height

-- the tree is whole, and each place has a leaf; what is known at each node holds of all
-- who wait below it
pub record IsTree {X : Type 0} (size estimate : X → ℕ) (nodes : List FrontierView) (places : List (Option X)) : Type 0 where
  pub whole : IsWhole (length nodes)
  pub many : 4 ≤ length nodes
  pub few : length nodes ≤ 2 ^ 40
  pub capacity : length places ≤ 32 * length nodes
  pub below : (times place : ℕ) (x : X) → slice_index_or places place None ≡ Some x → 1 ≤ halved times (leaf_of (length nodes) place) → IsBelow (node_at nodes (halved times (leaf_of (length nodes) place))) (size x) (estimate x)

-- below this node, of so many nodes, stand `span` leaves from this one on, counted from 0
pub record IsPart (count node low span : ℕ) : Type 0 where
  pub height : ℕ
  pub power : span ≡ 2 ^ height
  pub start : 2 * (node * span) ≡ count + 2 * low
  pub end : 2 * (low + span) ≤ count
