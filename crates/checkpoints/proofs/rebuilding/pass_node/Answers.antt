use Rattle.std.proofs.Common.{rules, [], ◌∷◌, ◌++◌, map, take, drop, ◌+◌, sym, ◌∙◌, ap, arith, subst, List, Some, Bor, Option, ℕ, ◌≡◌}
use Rattle.metrics.specs.Part.{PartSums}
use Rattle.checkpoints.specs.Nodes.{NodeView, node_parts, AreNodesOf, ArePartsFrom, AreInRow}
use Rattle.checkpoints.specs.Rebuilding.{IsRebuilding}
use Rattle.checkpoints.proofs.Reused.{node-few, place-known, between-few, bounds-known, between-same, passed-over, node-reused, from-last}
use Rattle.checkpoints.proofs.rebuilding.pass_node.Goals as goal

abbrev now : Bor PartSums → PartSums
now b = b.now

pub overflow_add-so_far : goal.overflow_add-so_far
overflow_add-so_far g c =
    let few = node-few (map now c.args.parts.now) c.args.places.now c.requires.old.0 c.args.so_far.now.level.nodes.items c.args.node.now c.args.so_far.now.count c.args.so_far.now.place c.args.so_far.now.first c.requires.old.1 in
    omega (arith, few, c.count-count.ensures)

pub next_place-so_far-requires : goal.next_place-so_far-requires
next_place-so_far-requires g c = place-known (map now c.args.parts.now) c.args.places.now (c.args.node.now ∷ c.requires.old.0) c.args.so_far.now.level.nodes.items c.args.so_far.now.count c.args.so_far.now.place c.args.so_far.now.first c.requires.old.1

pub end_of_node-requires-clause-few : goal.end_of_node-requires-clause-few
end_of_node-requires-clause-few g c =
    let few = node-few (map now c.args.parts.now) c.args.places.now c.requires.old.0 c.args.so_far.now.level.nodes.items c.args.node.now c.args.so_far.now.count c.args.so_far.now.place c.args.so_far.now.first c.requires.old.1 in
    omega (arith, few, c.count-count.ensures)

pub returns-in_default-clause-nodes : goal.returns-in_default-clause-nodes
returns-in_default-clause-nodes g c left h =
    subst (λ n. IsRebuilding (map now c.args.parts.now) c.args.places.now left c.args.so_far.now.level.nodes.items c.args.so_far.now.count c.next_place-so_far.result (c.args.so_far.now.first + n)) (sym c.count-count.ensures)
    (passed-over (map now c.args.parts.now) c.args.places.now left c.args.so_far.now.level.nodes.items c.args.node.now c.args.so_far.now.count c.args.so_far.now.place c.args.so_far.now.first c.next_place-so_far.result h c.next_place-so_far.ensures.from c.next_place-so_far.ensures.within)

pub returns-in_default-clause-places : goal.returns-in_default-clause-places
returns-in_default-clause-places g c olds e h = h

pub slice_bounds-new-end : goal.slice_bounds-new-end
slice_bounds-new-end g c = search (rules, bounds-known now c.args.parts.now c.args.places.now (c.args.node.now ∷ c.requires.old.0) c.args.so_far.now.level.nodes.items c.args.so_far.now.count c.args.so_far.now.place c.args.so_far.now.first c.next_place-so_far.result c.requires.old.1 c.next_place-so_far.ensures.within)

pub add_nodes-requires : goal.add_nodes-requires
add_nodes-requires g c = between-few now c.args.parts.now c.args.so_far.now.count c.next_place-so_far.result c.requires.few

pub returns-clause-nodes : goal.returns-clause-nodes
returns-clause-nodes g c left h =
    let news : List PartSums = map now c.args.parts.now in
    let places = c.args.places.now in
    let first = c.args.so_far.now.first in
    let count = c.args.so_far.now.count in
    let to = c.next_place-so_far.result in
    let end = c.in-Some.end in
    let hs : List NodeView = c.add_nodes.new.so_far.nodes.items in
    let all : List NodeView = c.push.new.self.items in
    let found = c.in-Some.ensures in
    subst (λ n. IsRebuilding news places left all end end (first + n)) (sym c.count-count.ensures)
    (node-reused news places left c.args.so_far.now.level.nodes.items hs all c.args.node.now count c.args.so_far.now.place first to end h c.next_place-so_far.ensures.from
    (found.0 ∙ ap (λ n. to + n) c.count-count.ensures) found.1 (subst (λ n. AreInRow first (take n (drop to places))) c.count-count.ensures found.2)
    (λ vs k. subst (λ (ws : List PartSums). AreNodesOf (vs ++ ws) hs) (between-same now c.args.parts.now count to) (c.in_ok-add_nodes.ensures.nodes vs k))
    (c.in_ok-push.ensures.items ∙ ap (λ x. hs ++ x ∷ []) c.in_ok-share.ensures))

pub returns-clause-places : goal.returns-clause-places
returns-clause-places g c olds e h =
    let hs : List NodeView = c.add_nodes.new.so_far.nodes.items in
    let was : List (Option ℕ) = c.add_nodes.new.so_far.places.items in
    let gs : List NodeView = c.push.new.self.items in
    let ps : List (Option ℕ) = c.push-2.new.self.items in
    let last = from-last olds hs was c.args.node.now (Some c.args.at) (c.in_ok-add_nodes.ensures.places olds h) e in
    let pushed : gs ≡ hs ++ c.args.node.now ∷ [] = c.in_ok-push.ensures.items ∙ ap (λ x. hs ++ x ∷ []) c.in_ok-share.ensures in
    let noted : ps ≡ was ++ Some c.args.at ∷ [] = c.in_ok-push-2.ensures.items in
    subst (λ (qs : List (Option ℕ)). ArePartsFrom olds (node_parts gs) qs) (sym noted) (subst (λ (ks : List NodeView). ArePartsFrom olds (node_parts ks) (was ++ Some c.args.at ∷ [])) (sym pushed) last)
