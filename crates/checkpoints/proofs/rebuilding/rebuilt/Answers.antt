use Rattle.std.proofs.Common.{◌≡◌, ◌+◌, ◌∷◌, ◌++◌, map, drop, List, length, sym, ◌∙◌, ap, subst, Bor, Some, option_map, refl}
use Rattle.std.specs.List.{slice_get}
use Rattle.std.proofs.lemmas.List.{drop_more}
use Rattle.std.proofs.lemmas.Option.{slice_get_read, slice_get-map}
use Rattle.metrics.specs.Part.{PartSums}
use Rattle.checkpoints.specs.Nodes.{NodeView, AreNodesOf, node_parts}
use Rattle.checkpoints.specs.Rebuilding.{IsRebuilding}
use Rattle.checkpoints.proofs.Reused.{rest-level, between-few, behind-same}
use Rattle.checkpoints.proofs.rebuilding.rebuilt.Goals as goal

abbrev now : Bor PartSums → PartSums
now b = b.now

pub pass_node-requires-clause-old : goal.pass_node-requires-clause-old
pass_node-requires-clause-old g c =
    let at = c.loop-at.at in
    let so_far = c.loop-at.so_far in
    let next : drop at c.args.old.now ≡ c.index-old-at.result ∷ drop (at + 1) c.args.old.now = drop_more c.args.old.now at c.index-old-at.result c.loop-at-test.true ∙ ap (λ x. x ∷ drop (at + 1) c.args.old.now) (sym c.index-old-at.is) in
    (drop (at + 1) c.args.old.now, subst (λ (gs : List NodeView). IsRebuilding (map now c.args.parts.now) c.args.places.now gs so_far.level.nodes.items so_far.count so_far.place so_far.first) next c.loop-at.invariant.nodes)

pub loop-at-preserved : goal.loop-at-preserved
loop-at-preserved g c =
    let at = c.loop-at.at in
    let so_far = c.loop-at.so_far in
    let part = λ (k : NodeView). k.part in
    let next : drop at c.args.old.now ≡ c.index-old-at.result ∷ drop (at + 1) c.args.old.now = drop_more c.args.old.now at c.index-old-at.result c.loop-at-test.true ∙ ap (λ x. x ∷ drop (at + 1) c.args.old.now) (sym c.index-old-at.is) in
    let found : slice_get (node_parts c.args.old.now) at ≡ Some c.index-old-at.result.part = slice_get-map part c.args.old.now at ∙ ap (option_map part) (slice_get_read c.args.old.now (length c.args.old.now) at c.index-old-at.result refl c.loop-at-test.true c.index-old-at.is) in
    record {
      nodes = c.in_ok-pass_node.ensures.nodes (drop (at + 1) c.args.old.now) (subst (λ (gs : List NodeView). IsRebuilding (map now c.args.parts.now) c.args.places.now gs so_far.level.nodes.items so_far.count so_far.place so_far.first) next c.loop-at.invariant.nodes);
      places = c.in_ok-pass_node.ensures.places (node_parts c.args.old.now) found c.loop-at.invariant.places;
    }

pub add_nodes-requires : goal.add_nodes-requires
add_nodes-requires g c = between-few now c.args.parts.now c.loop-at.so_far.count (length c.args.parts.now) c.requires.few

pub returns-clause-nodes : goal.returns-clause-nodes
returns-clause-nodes g c =
    let so_far = c.loop-at.so_far in
    let gs : List NodeView = c.add_nodes.new.so_far.nodes.items in
    rest-level (map now c.args.parts.now) c.args.places.now _ so_far.level.nodes.items gs so_far.count so_far.place so_far.first c.loop-at.invariant.nodes
    (λ vs h. subst (λ (ws : List PartSums). AreNodesOf (vs ++ ws) gs) (behind-same now c.args.parts.now so_far.count) (c.in_ok-add_nodes.ensures.nodes vs h))

pub returns-clause-places : goal.returns-clause-places
returns-clause-places g c = c.in_ok-add_nodes.ensures.places (node_parts c.args.old.now) c.loop-at.invariant.places
