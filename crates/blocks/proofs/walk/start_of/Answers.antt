use Rattle.std.proofs.Common.{arith}
use Rattle.blocks.proofs.Grouped.{groups_all, groups_sum, start_most}
use Rattle.blocks.proofs.walk.start_of.Goals as goal

pub items_of_groups-requires-clause-few : goal.items_of_groups-requires-clause-few
items_of_groups-requires-clause-few g c =
    let all = groups_all g.T.Ranked.weight c.args.blocks.now c.args.groups.now c.requires.groups in
    omega (arith, all, c.requires.few)

pub overflow_add-result : goal.overflow_add-result
overflow_add-result g c =
    let sum = groups_sum g.T.Ranked.weight c.min-whole.result c.args.blocks.now c.args.groups.now c.requires.groups (omega (arith, c.min-whole.ensures)) in
    omega (arith, sum, c.items_of_groups.ensures, c.items_in.ensures, start_most c.args.block c.args.blocks.now, c.requires.few)

pub returns : goal.returns
returns g c =
    let sum = groups_sum g.T.Ranked.weight c.min-whole.result c.args.blocks.now c.args.groups.now c.requires.groups (omega (arith, c.min-whole.ensures)) in
    omega (arith, sum, c.items_of_groups.ensures, c.items_in.ensures)
