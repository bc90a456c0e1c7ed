use Rattle.std.proofs.Common.{arith, rules}
use Rattle.blocks.proofs.Grouped.{groups_added}
use Rattle.blocks.proofs.groups.renew.Goals as goal

pub missing-preserved : goal.missing-preserved
missing-preserved g c =
    record {
      known = groups_added g.T.Ranked.weight c.args.blocks.now _ c.missing.groups.items c.push.new.self.items c.group_from-group.result c.in-Ok.ensures.items c.missing.invariant.known (search rules) c.group_from-group.ensures;
      capacity = omega (arith, c.missing.invariant.capacity, c.in-Ok.ensures.capacity);
    }
