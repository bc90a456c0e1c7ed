use Rattle.std.proofs.Common.{arith, length, refl}
use Rattle.blocks.proofs.Grouped.{open_start}
use Rattle.blocks.proofs.place.open_place.Goals as goal

pub returns-then-place-blocks-clause-block : goal.returns-then-place-blocks-clause-block
returns-then-place-blocks-clause-block g c = c.if-place-blocks.true

pub returns-then-place-blocks-clause-within : goal.returns-then-place-blocks-clause-within
returns-then-place-blocks-clause-within g c = c.requires.within

pub returns-then-place-blocks-clause-place : goal.returns-then-place-blocks-clause-place
returns-then-place-blocks-clause-place g c = refl

pub returns-clause-within : goal.returns-clause-within
returns-clause-within g c = omega (arith, c.items_of-at.ensures.len)

pub returns-clause-place : goal.returns-clause-place
returns-clause-place g c =
    open_start c.args.place.block c.args.place.at (length c.items_of-at.result.now) c.args.blocks.now c.requires.some c.requires.block c.if-place-blocks.false c.requires.within c.items_of-at.ensures.len
