use Rattle.std.proofs.Common.{◌≡◌, ◌∙◌, List, Bor, sym, subst, ap, map}
use Rattle.std.specs.Arc.{arc_value}
use Rattle.metrics.specs.Part.{PartSums}
use Rattle.checkpoints.specs.Merged.{AreFew}
use Rattle.checkpoints.specs.Nodes.{parts_of, node_parts}
use Rattle.checkpoints.proofs.Levels.{nodes-few}
use Rattle.checkpoints.proofs.merge_tree.MergeTree.of.Goals as goal

abbrev now : Bor PartSums → PartSums
now b = b.now

pub nodes_above-requires : goal.nodes_above-requires
nodes_above-requires g c =
    let are : map now c.as_slice.result.now ≡ parts_of (map arc_value c.args.segments.now) = ap (λ (bs : List (Bor PartSums)). map now bs) c.as_slice.ensures.value ∙ c.in_ok-parts.ensures in
    let few : AreFew (node_parts c.in_ok-small.small.items) = nodes-few (map now c.as_slice.result.now) c.in_ok-small.small.items c.in_ok-small.ensures (subst AreFew (sym are) c.requires) in
    rw c.as_slice-2.ensures.value few

pub nodes_above-requires-2 : goal.nodes_above-requires-2
nodes_above-requires-2 g c =
    let are : map now c.as_slice.result.now ≡ parts_of (map arc_value c.args.segments.now) = ap (λ (bs : List (Bor PartSums)). map now bs) c.as_slice.ensures.value ∙ c.in_ok-parts.ensures in
    let few : AreFew (node_parts c.in_ok-small.small.items) = nodes-few (map now c.as_slice.result.now) c.in_ok-small.small.items c.in_ok-small.ensures (subst AreFew (sym are) c.requires) in
    let fewer : AreFew (node_parts c.in_ok-middle.middle.items) = nodes-few (node_parts c.as_slice-2.result.now) c.in_ok-middle.middle.items c.in_ok-middle.ensures (rw c.as_slice-2.ensures.value few) in
    rw c.as_slice-3.ensures.value fewer
