use Rattle.std.proofs.Common.{arith, ◌∙◌}
use Rattle.blocks.proofs.Grouped.{groups_there, item_start}
use Rattle.blocks.proofs.walk.item_at.Goals as goal

pub overflow_mul-group : goal.overflow_mul-group
overflow_mul-group g c =
    let all = groups_there g.T.Ranked.weight c.args.blocks.now c.args.groups.now c.requires.groups in
    omega (arith, all, c.groups_before-group.ensures.within, c.requires.few)

pub item_from-requires : goal.item_from-requires
item_from-requires g c =
    let all = groups_there g.T.Ranked.weight c.args.blocks.now c.args.groups.now c.requires.groups in
    omega (arith, all, c.groups_before-group.ensures.within)

pub returns : goal.returns
returns g c =
    c.item_from.ensures ∙ item_start g.T.Ranked.weight c.groups_before-group.result.0 c.groups_before-group.result.1 c.args.place c.args.blocks.now c.args.groups.now c.requires.groups c.groups_before-group.ensures.within c.groups_before-group.ensures.place
