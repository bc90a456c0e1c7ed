use Rattle.std.proofs.Common.{arith}
use Rattle.blocks.proofs.Grouped.{groups_there, groups_weight}
use Rattle.blocks.proofs.front.lighter.Goals as goal

pub overflow_mul-whole : goal.overflow_mul-whole
overflow_mul-whole g c =
    let all = groups_there g.T.Ranked.weight c.args.blocks.now c.args.groups.now c.requires.groups in
    omega (arith, all, c.lighter_groups-whole.ensures.within, c.requires.few)

pub lighter_from-count-requires : goal.lighter_from-count-requires
lighter_from-count-requires g c =
    let all = groups_there g.T.Ranked.weight c.args.blocks.now c.args.groups.now c.requires.groups in
    omega (arith, all, c.lighter_groups-whole.ensures.within)

pub overflow_sub-result : goal.overflow_sub-result
overflow_sub-result g c =
    let sum = groups_weight g.T.Ranked.weight c.lighter_groups-whole.result.0 c.args.blocks.now c.args.groups.now c.requires.groups c.lighter_groups-whole.ensures.within in
    omega (arith, sum, c.lighter_groups-whole.ensures.left, c.lighter_from-count.ensures.left)

pub returns-clause-weight : goal.returns-clause-weight
returns-clause-weight g c =
    let sum = groups_weight g.T.Ranked.weight c.lighter_groups-whole.result.0 c.args.blocks.now c.args.groups.now c.requires.groups c.lighter_groups-whole.ensures.within in
    omega (arith, sum, c.lighter_groups-whole.ensures.left, c.lighter_from-count.ensures.left)

pub returns-clause-less : goal.returns-clause-less
returns-clause-less g c = λ one. omega (arith, one, c.lighter_groups-whole.ensures.some one, c.lighter_from-count.ensures.some (c.lighter_groups-whole.ensures.some one))

pub returns-clause-most : goal.returns-clause-most
returns-clause-most g c =
    let sum = groups_weight g.T.Ranked.weight c.lighter_groups-whole.result.0 c.args.blocks.now c.args.groups.now c.requires.groups c.lighter_groups-whole.ensures.within in
    λ lt. omega (arith, sum, c.lighter_groups-whole.ensures.left, c.lighter_from-count.ensures.left, c.lighter_from-count.ensures.most lt)
