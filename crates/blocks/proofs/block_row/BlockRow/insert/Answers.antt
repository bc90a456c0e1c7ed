use Rattle.std.proofs.Common.{◌≡◌, ◌+◌, ◌<◌, ◌≤◌, ℕ, List, [], ap, get_or, insert, length, subst, sym, ◌∙◌}
use Rattle.blocks.specs.Rows.{flat, start}
use Rattle.blocks.proofs.Edits.{begun_flat, none_by, some_by}
use Rattle.blocks.proofs.block_row.BlockRow.insert.Goals as goal

pub begin-requires-clause-none : goal.begin-requires-clause-none
begin-requires-clause-none g c = sym c.blocks-2.ensures.blocks ∙ none_by c.blocks-2.result.now (sym c.if-is_empty.true ∙ c.is_empty.ensures)

pub begin-requires-clause-capacity : goal.begin-requires-clause-capacity
begin-requires-clause-capacity g c = c.requires.capacity

pub returns-then-is_empty-clause-items : goal.returns-then-is_empty-clause-items
returns-then-is_empty-clause-items g c =
    let none = sym c.blocks-2.ensures.blocks ∙ none_by c.blocks-2.result.now (sym c.if-is_empty.true ∙ c.is_empty.ensures) in
    begun_flat c.args.place.block c.args.place.at c.args.self.now.blocks c.begin.new.self.blocks c.args.item none c.begin.ensures.blocks

pub returns-then-is_empty-clause-spare : goal.returns-then-is_empty-clause-spare
returns-then-is_empty-clause-spare g c = c.begin.ensures.spare

pub open_place-place-requires-clause-some : goal.open_place-place-requires-clause-some
open_place-place-requires-clause-some g c = some_by c.blocks-2.result.now c.blocks-3.result.now (c.blocks-3.ensures.blocks ∙ sym c.blocks-2.ensures.blocks) (sym c.if-is_empty.false ∙ c.is_empty.ensures)

pub open_place-place-requires-clause-block : goal.open_place-place-requires-clause-block
open_place-place-requires-clause-block g c = subst (λ (r : List (List g.row.T.Denot)). c.args.place.block ≤ length r) (sym c.blocks-3.ensures.blocks) c.requires.block

pub open_place-place-requires-clause-within : goal.open_place-place-requires-clause-within
open_place-place-requires-clause-within g c = subst (λ (r : List (List g.row.T.Denot)). c.args.place.at ≤ length (get_or r c.args.place.block [])) (sym c.blocks-3.ensures.blocks) c.requires.within

pub enter-requires-clause-block : goal.enter-requires-clause-block
enter-requires-clause-block g c = subst (λ (r : List (List g.row.T.Denot)). c.open_place-place.result.block < length r) c.blocks-3.ensures.blocks c.open_place-place.ensures.block

pub enter-requires-clause-within : goal.enter-requires-clause-within
enter-requires-clause-within g c = subst (λ (r : List (List g.row.T.Denot)). c.open_place-place.result.at ≤ length (get_or r c.open_place-place.result.block [])) c.blocks-3.ensures.blocks c.open_place-place.ensures.within

pub enter-requires-clause-capacity : goal.enter-requires-clause-capacity
enter-requires-clause-capacity g c = c.requires.capacity

pub returns-clause-items : goal.returns-clause-items
returns-clause-items g c =
    let place = c.open_place-place.result in
    let same = subst (λ (r : List (List g.row.T.Denot)). start place.block r + place.at ≡ start c.args.place.block r + c.args.place.at) c.blocks-3.ensures.blocks c.open_place-place.ensures.place in
    c.enter.ensures.items ∙ ap (λ (n : ℕ). insert (flat c.args.self.now.blocks) n c.args.item) same

pub returns-clause-spare : goal.returns-clause-spare
returns-clause-spare g c = c.enter.ensures.spare
