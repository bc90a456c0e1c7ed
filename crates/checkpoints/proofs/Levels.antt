-- Nodes of parts, one after another, and their merge tree: the merged part of nodes is that of the parts they stand over.
use Rattle.std.proofs.Common.{◌≡◌, List, [], ◌∷◌, ◌++◌, map, length, refl, sym, ◌∙◌, ap, arith, subst, append_assoc, append-nil}
use Rattle.std.specs.List.{AllZip}
use Rattle.std.proofs.lemmas.Grind.{flat_map-append}
use Rattle.scenarios.specs.declared.placed.Placed.{Placed}
use Rattle.metrics.specs.Part.{PartSums, IsPartOf}
use Rattle.checkpoints.specs.Merged.{joined, IsMerged, AreFew}
use Rattle.checkpoints.specs.Nodes.{NodeView, MergeTreeView, node_parts, AreNodesOf, IsMergeTreeOf}
use Rattle.checkpoints.proofs.Merging.{zip-split}

pub nodes-both : (vs ws : List PartSums) (gs hs : List NodeView) → AreNodesOf vs gs → AreNodesOf ws hs → AreNodesOf (vs ++ ws) (gs ++ hs)
nodes-both vs ws [] hs e k = subst (λ l. AreNodesOf (l ++ ws) hs) (sym e) k
nodes-both vs ws (g ∷ gs) hs (front, back, e, n, m, rest) k = (front, back ++ ws, ap (λ l. l ++ ws) e ∙ append_assoc front back ws, n, m, nodes-both back ws gs hs rest k)

-- nodes of some parts and, behind them, a node of the next parts are nodes of all these parts
pub nodes-last : (vs front : List PartSums) (gs : List NodeView) (g : NodeView) → AreNodesOf vs gs → length front ≡ g.count → IsMerged front g.part → AreNodesOf (vs ++ front) (gs ++ g ∷ [])
nodes-last vs front gs g h n m = nodes-both vs front gs (g ∷ []) h (front, [], sym (append-nil front), n, m, refl)

nodes-lists : (vs : List PartSums) (gs : List NodeView) → AreNodesOf vs gs → (lists : List (List Placed)) → AllZip IsPartOf lists vs
    → (all : List (List Placed)) × AllZip IsPartOf all (map (λ (g : NodeView). g.part) gs) × (joined all ≡ joined lists)
nodes-lists vs [] e lists z = ([], tt, go lists (subst (λ ws. AllZip IsPartOf lists ws) e z)) where
  go : (ls : List (List Placed)) → AllZip IsPartOf ls [] → [] ≡ joined ls
  go [] h = refl
  go (l ∷ ls) h = absurd h
nodes-lists vs (g ∷ gs) (front, back, e, n, m, rest) lists z =
    let r = zip-split front back lists (subst (λ ws. AllZip IsPartOf lists ws) e z) in
    let i = nodes-lists back gs rest r.1 r.4 in
    (joined r.0 ∷ i.0, (m r.0 r.3, i.1), ap (λ l. joined r.0 ++ l) i.2 ∙ sym (flat_map-append (λ (ps : List Placed). ps) r.0 r.1) ∙ ap joined (sym r.2))

pub nodes-merged : (vs : List PartSums) (gs : List NodeView) (v : PartSums) → AreNodesOf vs gs → IsMerged (map (λ (g : NodeView). g.part) gs) v → IsMerged vs v
nodes-merged vs gs v h m lists z =
    let r = nodes-lists vs gs h lists z in
    subst (λ ps. IsPartOf ps v) r.2 (m r.0 r.1)

-- where some parts are over few jobs, the parts of their nodes are too
pub nodes-few : (vs : List PartSums) (gs : List NodeView) → AreNodesOf vs gs → AreFew vs → AreFew (map (λ (g : NodeView). g.part) gs)
nodes-few vs gs h few' =
    let r = nodes-lists vs gs h few'.lists few'.parts in
    let e = ap length r.2 in
    let l = few'.few in
    record { lists = r.0; parts = r.1; few = omega (arith, e, l) }

-- nodes that are added one by one: the nodes so far, behind those there were, are those of the parts before the rest
pub record Adding (all rest : List PartSums) (was is : List NodeView) : Type 0 where
  pub done : List PartSums
  pub split : all ≡ done ++ rest
  pub nodes : (vs : List PartSums) → AreNodesOf vs was → AreNodesOf (vs ++ done) is

-- where no node has been added yet, all parts are left
pub adding-first : (all : List PartSums) (gs : List NodeView) → Adding all all gs gs
adding-first all gs = record { done = []; split = refl; nodes = λ vs h. subst (λ l. AreNodesOf l gs) (sym (append-nil vs)) h }

-- with a node of the first parts that are left added, the others are left
pub adding-more : (all rest front back : List PartSums) (was is : List NodeView) (g : NodeView) → Adding all rest was is → rest ≡ front ++ back → length front ≡ g.count → IsMerged front g.part → Adding all back was (is ++ g ∷ [])
adding-more all rest front back was is g a e n m = record {
  done = a.done ++ front;
  split = a.split ∙ ap (λ l. a.done ++ l) e ∙ sym (append_assoc a.done front back);
  nodes = λ vs h. subst (λ l. AreNodesOf l (is ++ g ∷ [])) (append_assoc vs a.done front) (nodes-last (vs ++ a.done) front is g (a.nodes vs h) n m);
}

-- where no part is left, nodes that were those of some parts are those of these and, behind them, of all that were added
pub adding-done : (all : List PartSums) (was is : List NodeView) → Adding all [] was is → (vs : List PartSums) → AreNodesOf vs was → AreNodesOf (vs ++ all) is
adding-done all was is a vs h = subst (λ l. AreNodesOf (vs ++ l) is) (sym (a.split ∙ append-nil a.done)) (a.nodes vs h)

-- the merged part of a merge tree's large nodes is that of all its parts
pub merge_tree-merged : (vs : List PartSums) (l : MergeTreeView) (v : PartSums) → IsMergeTreeOf vs l → IsMerged (node_parts l.large) v → IsMerged vs v
merge_tree-merged vs l v h m = nodes-merged vs l.small v h.small (nodes-merged (node_parts l.small) l.middle v h.middle (nodes-merged (node_parts l.middle) l.large v h.large m))

-- where parts are over few jobs, so are the parts of their merge tree's large nodes
pub merge_tree-few : (vs : List PartSums) (l : MergeTreeView) → IsMergeTreeOf vs l → AreFew vs → AreFew (node_parts l.large)
merge_tree-few vs l h few' = nodes-few (node_parts l.middle) l.large h.large (nodes-few (node_parts l.small) l.middle h.middle (nodes-few vs l.small h.small few'))
