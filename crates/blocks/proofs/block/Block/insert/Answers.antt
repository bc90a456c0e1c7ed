use Rattle.std.proofs.Common.{◌<◌, ◌^◌, arith, rules}
use Rattle.blocks.proofs.Weights.{block_insert, block_light}
use Rattle.blocks.proofs.block.Block.insert.Goals as goal

pub overflow_add-self : goal.overflow_add-self
overflow_add-self g c =
    let light : c.self.inside.weight < 2 ^ 80 = block_light g.T.Ranked.weight c.self.inside.weight c.self.inside.least _ c.self.inside.items.items c.self.invariant.0 in
    omega arith

pub invariant_of-self : goal.invariant_of-self
invariant_of-self g c =
    (block_insert g.T.Ranked.weight c.self.inside.weight c.self.inside.least _ c.from.result c.args.at c.self.inside.items.items c.insert.new.self.items c.args.item _ _ c.self.invariant.0 (search rules) (search rules) (search rules) (omega arith) c.in-Ok.ensures.items (omega arith) (omega arith) c.in-Ok.ensures.capacity, search rules)
