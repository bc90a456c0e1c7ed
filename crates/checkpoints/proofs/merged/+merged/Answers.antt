use Rattle.std.proofs.Common.{rules, ◌/◌, length, Bor, arith}
use Rattle.std.proofs.lemmas.Result.{IfOk-weaker}
use Rattle.metrics.specs.Part.{PartSums}
use Rattle.checkpoints.proofs.Merging.{none-merged, one-few, one-merged, two-few, two-merged, front-few, back-few, halves-few, halves-merged}
use Rattle.checkpoints.proofs.merged.+merged.Goals as goal

pub returns-in-empty : goal.returns-in-empty
returns-in-empty g t c = none-merged (λ (b : Bor PartSums). b.now) c.args.parts.now c.empty.result (omega (arith, c.in-empty.len_below)) c.empty.ensures

pub merge-requires : goal.merge-requires
merge-requires g t c = one-few (λ (b : Bor PartSums). b.now) c.args.parts.now c.part-item.result c.empty-in-len1.result (omega (arith, c.in-len1.len_at_least, c.in-len1.len_below)) c.part-item.is c.empty-in-len1.ensures c.requires

pub returns-in-len1 : goal.returns-in-len1
returns-in-len1 g t c =
    IfOk-weaker c.merge-in-len1.result _ _ (λ part join. one-merged (λ (b : Bor PartSums). b.now) c.args.parts.now c.part-item.result c.empty-in-len1.result part (omega (arith, c.in-len1.len_at_least, c.in-len1.len_below)) c.part-item.is c.empty-in-len1.ensures join) c.merge-in-len1.ensures

pub merge-requires-in-len2 : goal.merge-requires-in-len2
merge-requires-in-len2 g t c = two-few (λ (b : Bor PartSums). b.now) c.args.parts.now c.part-item-then-parts-lt3.result c.other-item.result (omega (arith, c.in-len2.len_at_least, c.in-len2.len_below)) c.part-item-then-parts-lt3.is c.other-item.is c.requires

pub returns-in-len2 : goal.returns-in-len2
returns-in-len2 g t c =
    IfOk-weaker c.merge-in-len2.result _ _ (λ part join. two-merged (λ (b : Bor PartSums). b.now) c.args.parts.now c.part-item-then-parts-lt3.result c.other-item.result part (omega (arith, c.in-len2.len_at_least, c.in-len2.len_below)) c.part-item-then-parts-lt3.is c.other-item.is join) c.merge-in-len2.ensures

pub merged-requires : goal.merged-requires
merged-requires g t c κs within =
    let few = front-few (λ (b : Bor PartSums). b.now) c.args.parts.now c.split_at.result.0.now c.split_at.result.1.now (length c.args.parts.now / 2) c.split_at.ensures.front c.split_at.ensures.back c.requires in
    search (rules, few)

pub merged-requires-in_default : goal.merged-requires-in_default
merged-requires-in_default g t c κs within =
    let few = back-few (λ (b : Bor PartSums). b.now) c.args.parts.now c.split_at.result.0.now c.split_at.result.1.now (length c.args.parts.now / 2) c.split_at.ensures.front c.split_at.ensures.back c.requires in
    search (rules, few)

pub merge-requires-in_default : goal.merge-requires-in_default
merge-requires-in_default g t c =
    halves-few (λ (b : Bor PartSums). b.now) c.args.parts.now c.split_at.result.0.now c.split_at.result.1.now (length c.args.parts.now / 2) c.in_ok-part-in_default.part c.in_ok-other-in_default.other c.split_at.ensures.front c.split_at.ensures.back c.requires c.in_ok-part-in_default.ensures c.in_ok-other-in_default.ensures

pub returns-in_ok-other-in_default : goal.returns-in_ok-other-in_default
returns-in_ok-other-in_default g t c =
    IfOk-weaker c.merge-in_default.result _ _ (λ part join. halves-merged (λ (b : Bor PartSums). b.now) c.args.parts.now c.split_at.result.0.now c.split_at.result.1.now (length c.args.parts.now / 2) c.in_ok-part-in_default.part c.in_ok-other-in_default.other part c.split_at.ensures.front c.split_at.ensures.back c.in_ok-part-in_default.ensures c.in_ok-other-in_default.ensures join) c.merge-in_default.ensures
