use Rattle.std.proofs.Common.{List, [], ap, arith, take, get_or}
use Rattle.std.specs.List.{sum_by}
use Rattle.std.proofs.lemmas.List.{get_or_past}
use Rattle.std.proofs.lemmas.List.Sums.{sum_by-append, sum_by-take-le}
use Rattle.blocks.proofs.Edits.{read_is}
use Rattle.blocks.proofs.Found.{weight_at}
use Rattle.blocks.proofs.Grouped.{upto_most}
use Rattle.blocks.proofs.front.weight_before.Goals as goal

pub overflow_add-result : goal.overflow_add-result
overflow_add-result g c =
    omega (arith, c.weight_of_blocks-whole.ensures, upto_most (sum_by g.T.Ranked.weight) (sum_by-append g.T.Ranked.weight) c.place_of-place.result.block c.args.blocks.now, c.requires.light, c.weight_of_first.ensures.light)

pub returns-then-place-blocks : goal.returns-then-place-blocks
returns-then-place-blocks g c =
    let place = c.place_of-place.result in
    let all = weight_at g.T.Ranked.weight place.block place.at _ c.args.blocks.now c.place_of-place.ensures.within c.place_of-place.ensures.place in
    let block = ap (λ (l : List g.row.T.Denot). sum_by g.T.Ranked.weight (take place.at l)) (read_is place.block c.args.blocks.now c.index-blocks-place.result c.if-place-blocks.true c.index-blocks-place.is) in
    omega (arith, all, block, c.weight_of_blocks-whole.ensures, c.weight_of_first.ensures.value)

pub returns : goal.returns
returns g c =
    let place = c.place_of-place.result in
    let all = weight_at g.T.Ranked.weight place.block place.at _ c.args.blocks.now c.place_of-place.ensures.within c.place_of-place.ensures.place in
    let few = sum_by-take-le g.T.Ranked.weight (get_or c.args.blocks.now place.block []) place.at in
    let none = ap (sum_by g.T.Ranked.weight) (get_or_past c.args.blocks.now place.block [] (omega (arith, c.if-place-blocks.false))) in
    omega (arith, all, few, none, c.weight_of_blocks-whole.ensures)
