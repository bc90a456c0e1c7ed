use Rattle.std.proofs.Common.{◌/◌, ◌*◌, ◌∙◌, List, ap, arith, insert, length, refl, rules, set}
use Rattle.blocks.specs.declared.groups.Group.{Group}
use Rattle.blocks.proofs.Edits.{again_is}
use Rattle.blocks.proofs.Grouped.{group_fits, group_light, groups_put, groups_same, groups_unset}
use Rattle.blocks.proofs.groups.put_item.Goals as goal
use Rattle.blocks.proofs.groups.put_item.Goals.{then-number-groups, else-number-groups}

pub overflow_add-groups : goal.overflow_add-groups
overflow_add-groups g c =
    let d : Group = record { items = 0; weight = 0; least = 0 } in
    let fits = group_fits g.T.Ranked.weight c.args.blocks.now (64 * (c.args.place.block / 64)) _ (c.requires.groups (c.args.place.block / 64) d (search rules)) in
    omega (arith, fits, c.requires.few)

pub overflow_add-groups-then-number-groups : goal.overflow_add-groups-then-number-groups
overflow_add-groups-then-number-groups g c =
    let d : Group = record { items = 0; weight = 0; least = 0 } in
    let light = group_light g.T.Ranked.weight c.args.blocks.now (64 * (c.args.place.block / 64)) _ (c.requires.groups (c.args.place.block / 64) d (search rules)) in
    omega (arith, light, c.requires.light)

pub returns-clause-groups : goal.returns-clause-groups
returns-clause-groups g c =
    elim c.if-number-groups.branch [
      | then-number-groups w ↦ groups_put g.T.Ranked.weight c.args.blocks.now c.args.place.block c.args.place.at c.args.item c.insert.new.self c.index-blocks-place.result c.args.groups.now c.if-number-groups.groups w.from.result w.min.result (record { items = 0; weight = 0; least = 0 }) c.requires.block c.requires.within c.index-blocks-place.is c.insert.ensures c.requires.groups w.if-number-groups.true (omega (arith, w.from.ensures, c.weight-weight.ensures)) (omega (arith, w.min.ensures)) (omega (arith, w.min.ensures, w.from.ensures)) w.groups-is
      | else-number-groups w ↦ groups_unset g.T.Ranked.weight c.args.blocks.now _ c.args.place.block (c.args.place.block / 64) c.insert.new.self c.if-number-groups.groups refl refl (groups_same g.T.Ranked.weight c.args.blocks.now c.args.blocks.now c.args.groups.now c.if-number-groups.groups refl w.groups-is c.requires.groups) (omega (arith, w.if-number-groups.false, ap length w.groups-is))
    ]

pub insert-requires-clause-within : goal.insert-requires-clause-within
insert-requires-clause-within g c =
    let here = again_is c.args.place.block c.args.blocks.now c.index-blocks-place.result c.requires.block c.index-blocks-place.is in
    omega (arith, c.requires.within, ap length here)

pub insert-requires-clause-capacity : goal.insert-requires-clause-capacity
insert-requires-clause-capacity g c =
    let here = again_is c.args.place.block c.args.blocks.now c.index-blocks-place.result c.requires.block c.index-blocks-place.is in
    omega (arith, c.requires.short, ap length here)

pub returns-clause-blocks : goal.returns-clause-blocks
returns-clause-blocks g c =
    let here = again_is c.args.place.block c.args.blocks.now c.index-blocks-place.result c.requires.block c.index-blocks-place.is in
    ap (set c.args.blocks.now c.args.place.block) (c.insert.ensures ∙ ap (λ (b : List g.row.T.Denot). insert b c.args.place.at c.args.item) here)
