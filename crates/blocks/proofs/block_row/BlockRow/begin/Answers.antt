use Rattle.std.proofs.Common.{◌≡◌, ◌≤◌, ◌<◌, ◌^◌, [], ap, arith, length, subst, sym}
use Rattle.blocks.specs.Rows.{BlocksView}
use Rattle.blocks.proofs.Bounds.{all_one}
use Rattle.blocks.proofs.Grouped.{groups_empty}
use Rattle.blocks.proofs.Capacities.{begun_row, first_block}
use Rattle.blocks.proofs.block_row.BlockRow.begin.Goals as goal

pub take_from-block-requires-clause-some : goal.take_from-block-requires-clause-some
take_from-block-requires-clause-some g c = omega (arith, subst (λ (v : BlocksView g.row.T.Denot). 1 ≤ v.spare) (sym c.self.view_is) c.requires.capacity)

pub insert-requires-clause-capacity : goal.insert-requires-clause-capacity
insert-requires-clause-capacity g c = omega (arith, ap length c.take_from-block.ensures.none)

pub put_into-requires-clause-capacity : goal.put_into-requires-clause-capacity
put_into-requires-clause-capacity g c = omega (arith, c.self.invariant.0.usable, c.take_from-block.ensures.count)

pub invariant_of-self : goal.invariant_of-self
invariant_of-self g c =
    let none : c.self.inside.used.items ≡ [] = subst (λ (v : BlocksView g.row.T.Denot). v.blocks ≡ []) (sym c.self.view_is) c.requires.none in
    let made = first_block c.self.inside.used.items c.put_into.new.blocks.items c.take_from-block.result c.insert.new.self c.args.item none c.take_from-block.ensures.none c.insert.ensures c.put_into.ensures.items in (
      begun_row c.self.invariant.0 c.args.item c.put_into.new.blocks.items c.take_from-block.new.empty.items _ _ none made c.take_from-block.ensures.cleared c.take_from-block.ensures.count (omega (arith, c.put_into.ensures.kept)) (omega (arith, c.take_from-block.ensures.kept)),
      all_one (λ x. c.weight-self-inside.result ≤ g.T.Ranked.weight x) c.args.item c.put_into.new.blocks.items (omega (arith, c.weight-self-inside.ensures)) made,
      groups_empty g.T.Ranked.weight c.self.inside.used.items c.put_into.new.blocks.items c.self.inside.groups.items none c.self.invariant.2,
      omega (arith, c.self.invariant.3, ap length none, ap length made, c.take_from-block.ensures.count),
      all_one (λ x. g.T.Ranked.weight x < 2 ^ 64) c.args.item c.put_into.new.blocks.items (omega (arith, c.weight-self-inside.ensures, c.weight-self-inside.type_inv)) made,
    )

pub returns-clause-blocks : goal.returns-clause-blocks
returns-clause-blocks g c =
    let none : c.self.inside.used.items ≡ [] = subst (λ (v : BlocksView g.row.T.Denot). v.blocks ≡ []) (sym c.self.view_is) c.requires.none in
    first_block c.self.inside.used.items c.put_into.new.blocks.items c.take_from-block.result c.insert.new.self c.args.item none c.take_from-block.ensures.none c.insert.ensures c.put_into.ensures.items

pub returns-clause-spare : goal.returns-clause-spare
returns-clause-spare g c =
    let none : c.self.inside.used.items ≡ [] = subst (λ (v : BlocksView g.row.T.Denot). v.blocks ≡ []) (sym c.self.view_is) c.requires.none in
    let made = first_block c.self.inside.used.items c.put_into.new.blocks.items c.take_from-block.result c.insert.new.self c.args.item none c.take_from-block.ensures.none c.insert.ensures c.put_into.ensures.items in
    omega (arith, ap length none, ap length made, c.take_from-block.ensures.count, ap (λ (v : BlocksView g.row.T.Denot). v.spare) c.self.view_is)
