use Rattle.blocks.specs.Light.{NoneLight}
use Rattle.blocks.proofs.block.light_of.Given as goal

abbrev pub invariant-loop-place : goal.invariant-loop-place
invariant-loop-place g l = NoneLight g.T.Ranked.weight l.limit l.items l.from l.place
