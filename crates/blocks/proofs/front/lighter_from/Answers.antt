use Rattle.std.proofs.Common.{ap, arith, refl}
use Rattle.std.specs.List.{sum_by}
use Rattle.blocks.specs.Rows.{weight_to}
use Rattle.blocks.proofs.Edits.{read_is}
use Rattle.blocks.proofs.Weighed.{weight_next}
use Rattle.blocks.proofs.front.lighter_from.Goals as goal

pub returns-then-left-weight-clause-most : goal.returns-then-left-weight-clause-most
returns-then-left-weight-clause-most g c =
    λ lt. omega (arith, c.if-left-weight.true, c.weight-weight.ensures.value, ap (sum_by g.T.Ranked.weight) (read_is c.loop-number.number c.args.blocks.now c.index-blocks-number.result lt c.index-blocks-number.is))

pub loop-number-preserved : goal.loop-number-preserved
loop-number-preserved g c =
    let next = weight_next g.T.Ranked.weight c.loop-number.number c.args.blocks.now c.index-blocks-number.result (omega arith) c.index-blocks-number.is (weight_to g.T.Ranked.weight c.loop-number.number c.args.blocks.now) c.weight-weight.result refl c.weight-weight.ensures.value in
    record {
      sum = omega (arith, next, c.loop-number.invariant.sum, c.if-left-weight.false);
      some = λ one. omega (arith, c.if-left-weight.false);
    }
