use Rattle.std.proofs.Common.{arith}
use Rattle.std.specs.List.{sum_by}
use Rattle.std.proofs.lemmas.List.Sums.{sum_by-append}
use Rattle.blocks.proofs.Grouped.{groups_light, groups_weight, upto_most}
use Rattle.blocks.proofs.front.weight_of_blocks.Goals as goal

pub weight_of_groups-requires-clause-light : goal.weight_of_groups-requires-clause-light
weight_of_groups-requires-clause-light g c = omega (arith, groups_light g.T.Ranked.weight c.args.blocks.now c.args.groups.now c.requires.groups, c.requires.light)

pub overflow_add-result : goal.overflow_add-result
overflow_add-result g c =
    let sum = groups_weight g.T.Ranked.weight c.min-whole.result c.args.blocks.now c.args.groups.now c.requires.groups (omega (arith, c.min-whole.ensures)) in
    omega (arith, sum, c.weight_of_groups.ensures, c.weight_in.ensures, upto_most (sum_by g.T.Ranked.weight) (sum_by-append g.T.Ranked.weight) c.args.count c.args.blocks.now, c.requires.light)

pub returns : goal.returns
returns g c =
    let sum = groups_weight g.T.Ranked.weight c.min-whole.result c.args.blocks.now c.args.groups.now c.requires.groups (omega (arith, c.min-whole.ensures)) in
    omega (arith, sum, c.weight_of_groups.ensures, c.weight_in.ensures)
