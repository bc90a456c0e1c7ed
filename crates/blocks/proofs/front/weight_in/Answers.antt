use Rattle.std.proofs.Common.{◌≡◌, ◌+◌, ℕ, ◌∙◌, ap, arith, refl}
use Rattle.std.specs.List.{sum_by}
use Rattle.std.proofs.lemmas.List.Sums.{sum_by-append}
use Rattle.blocks.specs.Rows.{weight_to}
use Rattle.blocks.proofs.Grouped.{upto_most}
use Rattle.blocks.proofs.Weighed.{weight_next}
use Rattle.blocks.proofs.front.weight_in.Goals as goal

pub overflow_add-weight : goal.overflow_add-weight
overflow_add-weight g c =
    let next = weight_next g.T.Ranked.weight c.loop-number.number c.args.blocks.now c.index-blocks-number.result (omega (arith, c.loop-number-test.true, c.requires.within)) c.index-blocks-number.is (weight_to g.T.Ranked.weight c.loop-number.number c.args.blocks.now) c.weight-weight.result refl c.weight-weight.ensures.value in
    omega (arith, next, upto_most (sum_by g.T.Ranked.weight) (sum_by-append g.T.Ranked.weight) (c.loop-number.number + 1) c.args.blocks.now, c.loop-number.invariant, c.requires.light)

pub loop-number-preserved : goal.loop-number-preserved
loop-number-preserved g c =
    let next = weight_next g.T.Ranked.weight c.loop-number.number c.args.blocks.now c.index-blocks-number.result (omega (arith, c.loop-number-test.true, c.requires.within)) c.index-blocks-number.is (weight_to g.T.Ranked.weight c.loop-number.number c.args.blocks.now) c.weight-weight.result refl c.weight-weight.ensures.value in
    omega (arith, next, c.loop-number.invariant)

pub returns : goal.returns
returns g c =
    let last : c.loop-number.number ≡ c.args.last = omega (arith, c.loop-number-test.false, c.loop-number.auto.number-end c.requires.order) in
    c.loop-number.invariant ∙ ap (λ (n : ℕ). weight_to g.T.Ranked.weight n c.args.blocks.now) last
