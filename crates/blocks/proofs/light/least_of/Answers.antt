use Rattle.std.proofs.Common.{arith}
use Rattle.blocks.proofs.Grouped.{low_more}
use Rattle.blocks.proofs.light.least_of.Goals as goal

pub loop-number-init : goal.loop-number-init
loop-number-init g c = λ block low high. absurd (omega (arith, low, high))

pub loop-number-preserved : goal.loop-number-preserved
loop-number-preserved g c =
    low_more g.T.Ranked.weight c.args.first c.loop-number.number c.loop-number.least c.least.result _ c.args.blocks.now c.index-blocks-number.result (omega (arith, c.loop-number-test.true, c.requires)) c.index-blocks-number.is c.least.ensures (omega arith) (omega arith) c.loop-number.invariant

pub returns : goal.returns
returns g c = λ block low high. c.loop-number.invariant block low (omega (arith, high, c.loop-number-test.false))
