use Rattle.std.proofs.Common.{◌/◌, ◌*◌, ◌∙◌, List, [], ap, arith, get_or, length, refl, remove, rules, set}
use Rattle.std.proofs.lemmas.List.Sums.{get_or-le-sum_by}
use Rattle.blocks.specs.declared.groups.Group.{Group}
use Rattle.blocks.proofs.Edits.{again_is}
use Rattle.blocks.proofs.Grouped.{group_heavy, group_some, groups_taken, groups_unset}
use Rattle.blocks.proofs.groups.take_item.Goals as goal

pub overflow_sub-groups : goal.overflow_sub-groups
overflow_sub-groups g c =
    let d : Group = record { items = 0; weight = 0; least = 0 } in
    let some = group_some g.T.Ranked.weight c.args.blocks.now c.args.place.block (64 * (c.args.place.block / 64)) _ (omega arith) (omega arith) (c.requires.groups (c.args.place.block / 64) d (search rules)) in
    omega (arith, some, c.requires.at)

pub overflow_sub-groups-then-number-groups : goal.overflow_sub-groups-then-number-groups
overflow_sub-groups-then-number-groups g c =
    let d : Group = record { items = 0; weight = 0; least = 0 } in
    let heavy = group_heavy g.T.Ranked.weight c.args.blocks.now c.args.place.block (64 * (c.args.place.block / 64)) _ (omega arith) (omega arith) (c.requires.groups (c.args.place.block / 64) d (search rules)) in
    let block = get_or c.args.blocks.now c.args.place.block [] in
    let here = again_is c.args.place.block c.args.blocks.now c.index-blocks-place.result c.requires.block c.index-blocks-place.is in
    let item = c.remove-item.ensures.item ∙ ap (λ (b : List g.row.T.Denot). get_or b c.args.place.at c.remove-item.result) here in
    let light = get_or-le-sum_by g.T.Ranked.weight block c.args.place.at c.remove-item.result c.requires.at in
    omega (arith, heavy, light, ap g.T.Ranked.weight item, c.weight.ensures)

pub returns-then-number-groups-clause-groups : goal.returns-then-number-groups-clause-groups
returns-then-number-groups-clause-groups g c =
    groups_taken g.T.Ranked.weight c.args.blocks.now c.args.place.block c.args.place.at c.remove-item.result c.remove-item.new.self c.index-blocks-place.result c.args.groups.now _ c.from.result (record { items = 0; weight = 0; least = 0 }) c.requires.block c.requires.at c.index-blocks-place.is c.remove-item.ensures.item c.remove-item.ensures.left c.requires.groups c.if-number-groups.true (omega (arith, c.from.ensures, c.weight.ensures)) refl

pub returns-else-number-groups-clause-groups : goal.returns-else-number-groups-clause-groups
returns-else-number-groups-clause-groups g c =
    groups_unset g.T.Ranked.weight c.args.blocks.now _ c.args.place.block (c.args.place.block / 64) c.remove-item.new.self c.args.groups.now refl refl c.requires.groups (omega (arith, c.if-number-groups.false))

pub remove-item-requires : goal.remove-item-requires
remove-item-requires g c =
    let here = again_is c.args.place.block c.args.blocks.now c.index-blocks-place.result c.requires.block c.index-blocks-place.is in
    omega (arith, c.requires.at, ap length here)

pub returns-then-number-groups-clause-item : goal.returns-then-number-groups-clause-item
returns-then-number-groups-clause-item g c =
    let here = again_is c.args.place.block c.args.blocks.now c.index-blocks-place.result c.requires.block c.index-blocks-place.is in
    c.remove-item.ensures.item ∙ ap (λ (b : List g.row.T.Denot). get_or b c.args.place.at c.remove-item.result) here

pub returns-then-number-groups-clause-blocks : goal.returns-then-number-groups-clause-blocks
returns-then-number-groups-clause-blocks g c =
    let here = again_is c.args.place.block c.args.blocks.now c.index-blocks-place.result c.requires.block c.index-blocks-place.is in
    ap (set c.args.blocks.now c.args.place.block) (c.remove-item.ensures.left ∙ ap (λ (b : List g.row.T.Denot). remove b c.args.place.at) here)

pub returns-else-number-groups-clause-item : goal.returns-else-number-groups-clause-item
returns-else-number-groups-clause-item g c =
    let here = again_is c.args.place.block c.args.blocks.now c.index-blocks-place.result c.requires.block c.index-blocks-place.is in
    c.remove-item.ensures.item ∙ ap (λ (b : List g.row.T.Denot). get_or b c.args.place.at c.remove-item.result) here

pub returns-else-number-groups-clause-blocks : goal.returns-else-number-groups-clause-blocks
returns-else-number-groups-clause-blocks g c =
    let here = again_is c.args.place.block c.args.blocks.now c.index-blocks-place.result c.requires.block c.index-blocks-place.is in
    ap (set c.args.blocks.now c.args.place.block) (c.remove-item.ensures.left ∙ ap (λ (b : List g.row.T.Denot). remove b c.args.place.at) here)
