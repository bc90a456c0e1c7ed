use Rattle.std.proofs.Common.{rules}
use Rattle.blocks.proofs.Weights.{block_remove}
use Rattle.blocks.proofs.block.Block.remove.Goals as goal

pub invariant_of-self : goal.invariant_of-self
invariant_of-self g c =
    (block_remove g.T.Ranked.weight c.self.inside.weight c.self.inside.least _ c.from.result c.args.at c.self.inside.items.items c.remove-item.new.self.items c.remove-item.result _ c.self.invariant.0 (search rules) c.remove-item.ensures.value (search rules) c.remove-item.ensures.items c.remove-item.ensures.capacity, search rules)
