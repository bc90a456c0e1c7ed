use Rattle.std.proofs.Common.{◌≡◌, subst, sym, ap, ◌∙◌, map, List, Bor}
use Rattle.std.proofs.lemmas.Result.{IfOk-weaker}
use Rattle.metrics.specs.Part.{PartSums}
use Rattle.checkpoints.specs.Merged.{AreFew, IsMerged}
use Rattle.checkpoints.specs.Nodes.{MergeTreeView, node_parts}
use Rattle.checkpoints.proofs.Levels.{merge_tree-few, merge_tree-merged}
use Rattle.checkpoints.proofs.merge_tree.MergeTree.total.Goals as goal

abbrev now : Bor PartSums → PartSums
now b = b.now

pub merged-requires : goal.merged-requires
merged-requires g c =
    let are : map now c.as_slice-2.result.now ≡ node_parts c.args.self.now.large = ap (λ (bs : List (Bor PartSums)). map now bs) c.as_slice-2.ensures.value ∙ c.in_ok-parts.ensures ∙ ap node_parts (c.as_slice.ensures.value ∙ ap (λ (l : MergeTreeView). l.large) c.self.view_is) in
    subst AreFew (sym are) (merge_tree-few c.requires.0 c.args.self.now c.requires.2 c.requires.1)

pub returns : goal.returns
returns g c =
    let are : map now c.as_slice-2.result.now ≡ node_parts c.args.self.now.large = ap (λ (bs : List (Bor PartSums)). map now bs) c.as_slice-2.ensures.value ∙ c.in_ok-parts.ensures ∙ ap node_parts (c.as_slice.ensures.value ∙ ap (λ (l : MergeTreeView). l.large) c.self.view_is) in
    IfOk-weaker c.merged.result _ _ (λ part m vs h. merge_tree-merged vs c.args.self.now part h (subst (λ (ws : List PartSums). IsMerged ws part) are m)) c.merged.ensures
