use Rattle.std.proofs.Common.{◌+◌, [], ap, arith, get_or, length, ℕ, ◌∙◌, ◌≡◌}
use Rattle.blocks.specs.Rows.{start}
use Rattle.blocks.proofs.Edits.{read_is}
use Rattle.blocks.proofs.Grouped.{start_most, start_next}
use Rattle.blocks.proofs.walk.items_in.Goals as goal

pub overflow_add-items : goal.overflow_add-items
overflow_add-items g c =
    let here : length c.as_slice.result.now ≡ length (get_or c.args.blocks.now c.loop-number.number []) = ap length (c.as_slice.ensures.items ∙ read_is c.loop-number.number c.args.blocks.now c.index-blocks-number.result (omega (arith, c.loop-number-test.true, c.requires.within)) c.index-blocks-number.is) in
    let next : start (c.loop-number.number + 1) c.args.blocks.now ≡ start c.loop-number.number c.args.blocks.now + length (get_or c.args.blocks.now c.loop-number.number []) = start_next c.loop-number.number c.args.blocks.now (omega (arith, c.loop-number-test.true, c.requires.within)) in
    omega (arith, here, next, start_most (c.loop-number.number + 1) c.args.blocks.now, c.loop-number.invariant, c.requires.few)

pub loop-number-preserved : goal.loop-number-preserved
loop-number-preserved g c =
    let here : length c.as_slice.result.now ≡ length (get_or c.args.blocks.now c.loop-number.number []) = ap length (c.as_slice.ensures.items ∙ read_is c.loop-number.number c.args.blocks.now c.index-blocks-number.result (omega (arith, c.loop-number-test.true, c.requires.within)) c.index-blocks-number.is) in
    let next : start (c.loop-number.number + 1) c.args.blocks.now ≡ start c.loop-number.number c.args.blocks.now + length (get_or c.args.blocks.now c.loop-number.number []) = start_next c.loop-number.number c.args.blocks.now (omega (arith, c.loop-number-test.true, c.requires.within)) in
    omega (arith, here, next, c.loop-number.invariant)

pub returns : goal.returns
returns g c =
    let last : c.loop-number.number ≡ c.args.last = omega (arith, c.loop-number-test.false, c.loop-number.auto.number-end c.requires.order) in
    c.loop-number.invariant ∙ ap (λ (n : ℕ). start n c.args.blocks.now) last
