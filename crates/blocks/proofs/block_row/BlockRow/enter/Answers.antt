use Rattle.std.proofs.Common.{◌≡◌, ◌+◌, ℕ, List, [], ap, arith, get_or, insert, length, ◌∙◌}
use Rattle.blocks.specs.Rows.{flat, start}
use Rattle.blocks.proofs.Edits.{cut_flat, has_capacity, put_flat, seen_length}
use Rattle.blocks.proofs.block_row.BlockRow.enter.Goals as goal

pub put-requires-clause-block : goal.put-requires-clause-block
put-requires-clause-block g c = c.requires.block

pub put-requires-clause-within : goal.put-requires-clause-within
put-requires-clause-within g c = c.requires.within

pub put-requires-clause-short : goal.put-requires-clause-short
put-requires-clause-short g c =
    let here = seen_length c.args.place.block c.args.self.now.blocks c.blocks-2.result.now c.items_of.result.now c.items_of.ensures.value c.blocks-2.ensures.blocks in
    omega (arith, c.if-items_of-lt-BLOCK_LIMIT.true, here)

pub put-requires-clause-capacity : goal.put-requires-clause-capacity
put-requires-clause-capacity g c = λ long. c.requires.capacity

pub returns-then-items_of-lt-BLOCK_LIMIT-clause-items : goal.returns-then-items_of-lt-BLOCK_LIMIT-clause-items
returns-then-items_of-lt-BLOCK_LIMIT-clause-items g c = put_flat c.args.place.block c.args.place.at c.args.self.now.blocks c.put.new.self.blocks c.args.item c.requires.block c.requires.within c.put.ensures.blocks

pub returns-then-items_of-lt-BLOCK_LIMIT-clause-spare : goal.returns-then-items_of-lt-BLOCK_LIMIT-clause-spare
returns-then-items_of-lt-BLOCK_LIMIT-clause-spare g c = c.put.ensures.spare

pub cut-requires-clause-block : goal.cut-requires-clause-block
cut-requires-clause-block g c = c.requires.block

pub cut-requires-clause-full : goal.cut-requires-clause-full
cut-requires-clause-full g c =
    let here = seen_length c.args.place.block c.args.self.now.blocks c.blocks-2.result.now c.items_of.result.now c.items_of.ensures.value c.blocks-2.ensures.blocks in
    omega (arith, c.if-items_of-lt-BLOCK_LIMIT.false, c.items_of.ensures.most, here)

pub cut-requires-clause-capacity : goal.cut-requires-clause-capacity
cut-requires-clause-capacity g c = c.requires.capacity

pub halved-requires-clause-block : goal.halved-requires-clause-block
halved-requires-clause-block g c = omega (arith, c.requires.block, c.blocks-2.ensures.few)

pub halved-requires-clause-at : goal.halved-requires-clause-at
halved-requires-clause-at g c =
    let here = seen_length c.args.place.block c.args.self.now.blocks c.blocks-2.result.now c.items_of.result.now c.items_of.ensures.value c.blocks-2.ensures.blocks in
    omega (arith, c.items_of.ensures.most, here, c.requires.within)

pub put-requires-2-clause-block : goal.put-requires-2-clause-block
put-requires-2-clause-block g c =
    let here = seen_length c.args.place.block c.args.self.now.blocks c.blocks-2.result.now c.items_of.result.now c.items_of.ensures.value c.blocks-2.ensures.blocks in
    let full : length (get_or c.args.self.now.blocks c.args.place.block []) ≡ 128 = omega (arith, c.if-items_of-lt-BLOCK_LIMIT.false, c.items_of.ensures.most, here) in
    (has_capacity c.args.place.block c.args.place.at c.halved.result.block c.halved.result.at c.args.self.now.blocks c.cut.new.self.blocks c.requires.block full (omega (arith, full, c.requires.within)) c.cut.ensures.blocks c.halved.ensures.low c.halved.ensures.high).there

pub put-requires-2-clause-within : goal.put-requires-2-clause-within
put-requires-2-clause-within g c =
    let here = seen_length c.args.place.block c.args.self.now.blocks c.blocks-2.result.now c.items_of.result.now c.items_of.ensures.value c.blocks-2.ensures.blocks in
    let full : length (get_or c.args.self.now.blocks c.args.place.block []) ≡ 128 = omega (arith, c.if-items_of-lt-BLOCK_LIMIT.false, c.items_of.ensures.most, here) in
    (has_capacity c.args.place.block c.args.place.at c.halved.result.block c.halved.result.at c.args.self.now.blocks c.cut.new.self.blocks c.requires.block full (omega (arith, full, c.requires.within)) c.cut.ensures.blocks c.halved.ensures.low c.halved.ensures.high).within

pub put-requires-2-clause-short : goal.put-requires-2-clause-short
put-requires-2-clause-short g c =
    let here = seen_length c.args.place.block c.args.self.now.blocks c.blocks-2.result.now c.items_of.result.now c.items_of.ensures.value c.blocks-2.ensures.blocks in
    let full : length (get_or c.args.self.now.blocks c.args.place.block []) ≡ 128 = omega (arith, c.if-items_of-lt-BLOCK_LIMIT.false, c.items_of.ensures.most, here) in
    let capacity = has_capacity c.args.place.block c.args.place.at c.halved.result.block c.halved.result.at c.args.self.now.blocks c.cut.new.self.blocks c.requires.block full (omega (arith, full, c.requires.within)) c.cut.ensures.blocks c.halved.ensures.low c.halved.ensures.high in
    omega (arith, capacity.half)

pub put-requires-2-clause-capacity : goal.put-requires-2-clause-capacity
put-requires-2-clause-capacity g c =
    let here = seen_length c.args.place.block c.args.self.now.blocks c.blocks-2.result.now c.items_of.result.now c.items_of.ensures.value c.blocks-2.ensures.blocks in
    let full : length (get_or c.args.self.now.blocks c.args.place.block []) ≡ 128 = omega (arith, c.if-items_of-lt-BLOCK_LIMIT.false, c.items_of.ensures.most, here) in
    let capacity = has_capacity c.args.place.block c.args.place.at c.halved.result.block c.halved.result.at c.args.self.now.blocks c.cut.new.self.blocks c.requires.block full (omega (arith, full, c.requires.within)) c.cut.ensures.blocks c.halved.ensures.low c.halved.ensures.high in
    λ more. absurd (omega (arith, capacity.half, more))

pub returns-clause-items : goal.returns-clause-items
returns-clause-items g c =
    let cs = c.args.self.now.blocks in
    let here = seen_length c.args.place.block c.args.self.now.blocks c.blocks-2.result.now c.items_of.result.now c.items_of.ensures.value c.blocks-2.ensures.blocks in
    let full : length (get_or cs c.args.place.block []) ≡ 128 = omega (arith, c.if-items_of-lt-BLOCK_LIMIT.false, c.items_of.ensures.most, here) in
    let capacity = has_capacity c.args.place.block c.args.place.at c.halved.result.block c.halved.result.at cs c.cut.new.self.blocks c.requires.block full (omega (arith, full, c.requires.within)) c.cut.ensures.blocks c.halved.ensures.low c.halved.ensures.high in
    put_flat c.halved.result.block c.halved.result.at c.cut.new.self.blocks c.put-2.new.self.blocks c.args.item capacity.there capacity.within c.put-2.ensures.blocks
    ∙ ap (λ (l : List g.row.T.Denot). insert l (start c.halved.result.block c.cut.new.self.blocks + c.halved.result.at) c.args.item) (ap flat c.cut.ensures.blocks ∙ cut_flat c.args.place.block cs c.requires.block)
    ∙ ap (λ (n : ℕ). insert (flat cs) n c.args.item) capacity.same

pub returns-clause-spare : goal.returns-clause-spare
returns-clause-spare g c =
    let here = seen_length c.args.place.block c.args.self.now.blocks c.blocks-2.result.now c.items_of.result.now c.items_of.ensures.value c.blocks-2.ensures.blocks in
    let full : length (get_or c.args.self.now.blocks c.args.place.block []) ≡ 128 = omega (arith, c.if-items_of-lt-BLOCK_LIMIT.false, c.items_of.ensures.most, here) in
    let capacity = has_capacity c.args.place.block c.args.place.at c.halved.result.block c.halved.result.at c.args.self.now.blocks c.cut.new.self.blocks c.requires.block full (omega (arith, full, c.requires.within)) c.cut.ensures.blocks c.halved.ensures.low c.halved.ensures.high in
    let kept = c.put-2.ensures.kept (omega (arith, capacity.half)) in
    omega (arith, c.cut.ensures.spare, kept)
