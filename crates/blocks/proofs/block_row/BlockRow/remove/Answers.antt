use Rattle.std.proofs.Common.{◌≡◌, ◌≤◌, ◌<◌, ◌+◌, ℕ, List, [], ap, arith, get_or, length, remove, subst, sym, ◌∙◌}
use Rattle.blocks.specs.Rows.{flat, start}
use Rattle.std.proofs.lemmas.List.{length-set}
use Rattle.blocks.proofs.Edits.{item_is, join_flat, retired_flat, seen_length, taken_flat}
use Rattle.blocks.proofs.block_row.BlockRow.remove.Goals as goal

pub returns-then-items_of-eq1-clause-item : goal.returns-then-items_of-eq1-clause-item
returns-then-items_of-eq1-clause-item g c =
    let block = get_or c.args.self.now.blocks c.args.place.block [] in
    let one : length block ≡ 1 = omega (arith, c.if-items_of-eq1.true, seen_length c.args.place.block c.args.self.now.blocks c.blocks-2.result.now c.items_of.result.now c.items_of.ensures.value c.blocks-2.ensures.blocks) in
    let first : 0 ≡ c.args.place.at = omega (arith, one, c.requires.at) in
    c.retire.ensures.item ∙ ap (λ (n : ℕ). get_or block n c.retire.result) first ∙ sym (item_is c.args.place.block c.args.place.at c.args.self.now.blocks c.retire.result c.requires.block c.requires.at)

pub returns-then-items_of-eq1-clause-items : goal.returns-then-items_of-eq1-clause-items
returns-then-items_of-eq1-clause-items g c =
    let cs = c.args.self.now.blocks in
    let block = get_or cs c.args.place.block [] in
    let one : length block ≡ 1 = omega (arith, c.if-items_of-eq1.true, seen_length c.args.place.block c.args.self.now.blocks c.blocks-2.result.now c.items_of.result.now c.items_of.ensures.value c.blocks-2.ensures.blocks) in
    let first : 0 ≡ c.args.place.at = omega (arith, one, c.requires.at) in
    retired_flat c.args.place.block cs c.retire.new.self.blocks c.requires.block one c.retire.ensures.blocks ∙ ap (λ (n : ℕ). remove (flat cs) (start c.args.place.block cs + n)) first

pub retire-requires-clause-block : goal.retire-requires-clause-block
retire-requires-clause-block g c = c.requires.block

pub retire-requires-clause-one : goal.retire-requires-clause-one
retire-requires-clause-one g c = omega (arith, c.if-items_of-eq1.true, seen_length c.args.place.block c.args.self.now.blocks c.blocks-2.result.now c.items_of.result.now c.items_of.ensures.value c.blocks-2.ensures.blocks)

pub returns-then-items_of-eq1-clause-spare : goal.returns-then-items_of-eq1-clause-spare
returns-then-items_of-eq1-clause-spare g c = c.retire.ensures.spare

pub take_out-item-requires-clause-block : goal.take_out-item-requires-clause-block
take_out-item-requires-clause-block g c = c.requires.block

pub take_out-item-requires-clause-at : goal.take_out-item-requires-clause-at
take_out-item-requires-clause-at g c = c.requires.at

pub take_out-item-requires-clause-several : goal.take_out-item-requires-clause-several
take_out-item-requires-clause-several g c =
    omega (arith, c.requires.at, c.if-items_of-eq1.false, seen_length c.args.place.block c.args.self.now.blocks c.blocks-2.result.now c.items_of.result.now c.items_of.ensures.value c.blocks-2.ensures.blocks)

pub mate-requires : goal.mate-requires
mate-requires g c =
    omega (arith, c.requires.block, ap length c.blocks-3.ensures.blocks, ap length c.take_out-item.ensures.blocks, length-set c.args.self.now.blocks c.args.place.block (remove (get_or c.args.self.now.blocks c.args.place.block []) c.args.place.at))

pub join-requires-clause-block : goal.join-requires-clause-block
join-requires-clause-block g c = subst (λ (r : List (List g.row.T.Denot)). c.in-Some.first + 1 < length r) c.blocks-3.ensures.blocks c.in-Some.ensures.next

pub join-requires-clause-short : goal.join-requires-clause-short
join-requires-clause-short g c = subst (λ (r : List (List g.row.T.Denot)). length (get_or r c.in-Some.first []) + length (get_or r (c.in-Some.first + 1) []) ≤ 64) c.blocks-3.ensures.blocks c.in-Some.ensures.short

pub returns-in-Some-clause-item : goal.returns-in-Some-clause-item
returns-in-Some-clause-item g c = c.take_out-item.ensures.item ∙ sym (item_is c.args.place.block c.args.place.at c.args.self.now.blocks c.take_out-item.result c.requires.block c.requires.at)

pub returns-in-Some-clause-items : goal.returns-in-Some-clause-items
returns-in-Some-clause-items g c =
    let lt = subst (λ (r : List (List g.row.T.Denot)). c.in-Some.first + 1 < length r) c.blocks-3.ensures.blocks c.in-Some.ensures.next in
    join_flat c.in-Some.first c.take_out-item.new.self.blocks c.join.new.self.blocks lt c.join.ensures.blocks
    ∙ taken_flat c.args.place.block c.args.place.at c.args.self.now.blocks c.take_out-item.new.self.blocks c.requires.block c.requires.at c.take_out-item.ensures.blocks

pub returns-in-Some-clause-spare : goal.returns-in-Some-clause-spare
returns-in-Some-clause-spare g c = omega (arith, c.take_out-item.ensures.spare, c.join.ensures.spare)

pub returns-in_default-clause-item : goal.returns-in_default-clause-item
returns-in_default-clause-item g c = c.take_out-item.ensures.item ∙ sym (item_is c.args.place.block c.args.place.at c.args.self.now.blocks c.take_out-item.result c.requires.block c.requires.at)

pub returns-in_default-clause-items : goal.returns-in_default-clause-items
returns-in_default-clause-items g c = taken_flat c.args.place.block c.args.place.at c.args.self.now.blocks c.take_out-item.new.self.blocks c.requires.block c.requires.at c.take_out-item.ensures.blocks

pub returns-in_default-clause-spare : goal.returns-in_default-clause-spare
returns-in_default-clause-spare g c = c.take_out-item.ensures.spare
