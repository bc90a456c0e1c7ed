use Rattle.std.proofs.Common.{ap, arith, take}
use Rattle.blocks.proofs.Weights.{front_light}
use Rattle.blocks.proofs.block.Block.weight_of_first.Goals as goal

pub weight_of-requires : goal.weight_of-requires
weight_of-requires g c = omega (arith, front_light g.T.Ranked.weight c.self.inside.weight c.self.inside.least _ c.args.count c.self.inside.items.items _ c.self.invariant.0 (ap (take c.args.count) c.as_slice.ensures.value))

pub returns-clause-light : goal.returns-clause-light
returns-clause-light g c = omega (arith, front_light g.T.Ranked.weight c.self.inside.weight c.self.inside.least _ c.args.count c.self.inside.items.items _ c.self.invariant.0 (ap (take c.args.count) c.as_slice.ensures.value), c.weight_of.ensures)
