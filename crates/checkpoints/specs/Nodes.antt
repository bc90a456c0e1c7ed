-- The merge tree of parts: nodes over parts, nodes over nodes, and where the parts of a run come from.
use Rattle.std.specs.Prelude.{◌≡◌, ℕ, ◌+◌, List, [], ◌∷◌, ◌++◌, map, length, slice_get, Option, Some, IfSome}
use Rattle.std.specs.List.{AllZip}
use Rattle.metrics.specs.Part.{PartSums}
use Rattle.checkpoints.specs.Merged.{IsMerged}
use Rattle.checkpoints.specs.Segment.{SegmentView}

-- Parts that stand side by side: how many they are, and the sums over all their jobs.
pub record NodeView : Type 0 where
  pub count : ℕ
  pub part : PartSums

-- the parts of segments
abbrev pub parts_of : List SegmentView → List PartSums
parts_of ss = map (λ s. s.part) ss

-- the parts of nodes
abbrev pub node_parts : List NodeView → List PartSums
node_parts gs = map (λ g. g.part) gs

-- the nodes of these parts, one after another: each has the number of its parts and their merged part
abbrev pub AreNodesOf : List PartSums → List NodeView → Type 0
AreNodesOf vs [] = vs ≡ []
AreNodesOf vs (g ∷ gs) =
    (front : List PartSums) × (back : List PartSums) × (vs ≡ front ++ back) × (length front ≡ g.count) × IsMerged front g.part × AreNodesOf back gs

-- Nodes of parts, nodes of the small nodes' parts, and nodes of the middle nodes' parts.
pub record MergeTreeView : Type 0 where
  pub small : List NodeView
  pub middle : List NodeView
  pub large : List NodeView

-- they are those of these parts
pub record IsMergeTreeOf (vs : List PartSums) (merge_tree : MergeTreeView) : Type 0 where
  pub small : AreNodesOf vs merge_tree.small
  pub middle : AreNodesOf (node_parts merge_tree.small) merge_tree.middle
  pub large : AreNodesOf (node_parts merge_tree.middle) merge_tree.large

-- where each of some segments comes from: it is the old one at that place, or a new one
abbrev pub AreFrom : List SegmentView → List SegmentView → List (Option ℕ) → Type 0
AreFrom old ss places = AllZip (λ s place. IfSome place (λ k. slice_get old k ≡ Some s)) ss places

-- where each of some parts comes from
abbrev pub ArePartsFrom : List PartSums → List PartSums → List (Option ℕ) → Type 0
ArePartsFrom old vs places = AllZip (λ v place. IfSome place (λ k. slice_get old k ≡ Some v)) vs places

-- they come from places that follow one another, from this one on
abbrev pub AreInRow : ℕ → List (Option ℕ) → Type 0
AreInRow k [] = Unit {0}
AreInRow k (place ∷ places) = (place ≡ Some k) × AreInRow (k + 1) places
