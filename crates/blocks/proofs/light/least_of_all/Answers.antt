use Rattle.std.proofs.Common.{arith}
use Rattle.blocks.proofs.Grouped.{groups_there, low_groups}
use Rattle.blocks.proofs.light.least_of_all.Goals as goal

pub overflow_mul-groups : goal.overflow_mul-groups
overflow_mul-groups g c =
    let all = groups_there g.T.Ranked.weight c.args.blocks.now c.args.groups.now c.requires.groups in
    omega (arith, all, c.requires.short)

pub returns : goal.returns
returns g c =
    low_groups g.T.Ranked.weight c.args.blocks.now c.args.groups.now c.least_of_groups.result c.least_of-rest.result c.min.result c.requires.groups c.least_of_groups.ensures c.least_of-rest.ensures (omega (arith, c.min.ensures)) (omega (arith, c.min.ensures))
