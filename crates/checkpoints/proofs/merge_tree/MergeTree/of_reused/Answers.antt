use Rattle.std.proofs.Common.{◌≡◌, ◌∙◌, List, Bor, arith, sym, subst, ap, map}
use Rattle.std.specs.Arc.{arc_value}
use Rattle.std.proofs.lemmas.List.{length-map}
use Rattle.metrics.specs.Part.{PartSums}
use Rattle.checkpoints.specs.Segment.{SegmentView}
use Rattle.checkpoints.specs.Merged.{AreFew}
use Rattle.checkpoints.specs.Nodes.{NodeView, MergeTreeView, parts_of, node_parts, AreNodesOf, ArePartsFrom}
use Rattle.checkpoints.proofs.Levels.{nodes-few}
use Rattle.checkpoints.proofs.Reused.{rebuilding-begins, parts-from}
use Rattle.checkpoints.proofs.merge_tree.MergeTree.of_reused.Goals as goal

abbrev now : Bor PartSums → PartSums
now b = b.now

pub rebuilt-requires-clause-old : goal.rebuilt-requires-clause-old
rebuilt-requires-clause-old g c =
    let olds : List SegmentView = c.requires.old.0 in
    let are : map now c.as_slice-2.result.now ≡ parts_of (map arc_value c.args.segments.now) = ap (λ (bs : List (Bor PartSums)). map now bs) c.as_slice-2.ensures.value ∙ c.in_ok-parts.ensures in
    let from : ArePartsFrom (parts_of olds) (map now c.as_slice-2.result.now) c.args.places.now = subst (λ (vs : List PartSums). ArePartsFrom (parts_of olds) vs c.args.places.now) (sym are) (parts-from olds (map arc_value c.args.segments.now) c.args.places.now c.requires.old.3) in
    let small : c.as_slice.result.now ≡ c.args.old.now.small = c.as_slice.ensures.value ∙ ap (λ (l : MergeTreeView). l.small) c.old.view_is in
    let old : AreNodesOf (parts_of olds) c.as_slice.result.now = subst (λ (gs : List NodeView). AreNodesOf (parts_of olds) gs) (sym small) c.requires.old.2.small in
    let long = length-map olds (λ (s : SegmentView). s.part) in
    rebuilding-begins (parts_of olds) (map now c.as_slice-2.result.now) c.args.places.now c.as_slice.result.now from old (omega (arith, long, c.requires.old.1))

pub rebuilt_above-requires-clause-few : goal.rebuilt_above-requires-clause-few
rebuilt_above-requires-clause-few g c =
    let are : map now c.as_slice-2.result.now ≡ parts_of (map arc_value c.args.segments.now) = ap (λ (bs : List (Bor PartSums)). map now bs) c.as_slice-2.ensures.value ∙ c.in_ok-parts.ensures in
    nodes-few (map now c.as_slice-2.result.now) c.in_ok-small.small.nodes.items c.in_ok-small.ensures.nodes (subst AreFew (sym are) c.requires.few)

pub rebuilt_above-requires-2-clause-few : goal.rebuilt_above-requires-2-clause-few
rebuilt_above-requires-2-clause-few g c =
    let are : map now c.as_slice-2.result.now ≡ parts_of (map arc_value c.args.segments.now) = ap (λ (bs : List (Bor PartSums)). map now bs) c.as_slice-2.ensures.value ∙ c.in_ok-parts.ensures in
    let few : AreFew (node_parts c.in_ok-small.small.nodes.items) = nodes-few (map now c.as_slice-2.result.now) c.in_ok-small.small.nodes.items c.in_ok-small.ensures.nodes (subst AreFew (sym are) c.requires.few) in
    nodes-few (node_parts c.in_ok-small.small.nodes.items) c.in_ok-middle.middle.nodes.items c.in_ok-middle.ensures.nodes few
