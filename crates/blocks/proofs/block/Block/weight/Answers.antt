use Rattle.blocks.proofs.Weights.{block_light}
use Rattle.blocks.proofs.block.Block.weight.Goals as goal

pub returns-clause-light : goal.returns-clause-light
returns-clause-light g c = block_light g.T.Ranked.weight c.self.inside.weight c.self.inside.least _ c.self.inside.items.items c.self.invariant.0
