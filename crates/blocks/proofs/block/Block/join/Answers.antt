use Rattle.std.proofs.Common.{◌<◌, ◌^◌, arith}
use Rattle.blocks.proofs.Weights.{block_light}
use Rattle.blocks.proofs.block.Block.join.Goals as goal

pub overflow_add-self : goal.overflow_add-self
overflow_add-self g c =
    let light : c.self.inside.weight < 2 ^ 80 = block_light g.T.Ranked.weight c.self.inside.weight c.self.inside.least _ c.self.inside.items.items c.self.invariant.0 in
    let more : c.next.inside.weight < 2 ^ 80 = block_light g.T.Ranked.weight c.next.inside.weight c.next.inside.least _ c.next.inside.items.items c.next.invariant.0 in
    omega arith
