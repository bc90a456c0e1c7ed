use Rattle.std.proofs.Common.{◌≡◌, ◌<◌, ◌≤◌, ◌^◌, [], ap, arith, get_or, length, refl, subst, sym, ◌∙◌}
use Rattle.std.specs.List.{sum_by}
use Rattle.std.proofs.lemmas.List.{length-set}
use Rattle.blocks.specs.Rows.{BlocksView, cut_at, flat}
use Rattle.blocks.proofs.Bounds.{all_cut}
use Rattle.blocks.proofs.Edits.{cut_by, cut_flat, cut_length, read_is}
use Rattle.blocks.proofs.Grouped.{groups_cut, groups_same}
use Rattle.blocks.proofs.Capacities.{cut_row, many, over_here, weighs}
use Rattle.blocks.proofs.block_row.BlockRow.cut.Goals as goal

pub take_from-high-requires-clause-some : goal.take_from-high-requires-clause-some
take_from-high-requires-clause-some g c = omega (arith, subst (λ (v : BlocksView g.row.T.Denot). 1 ≤ v.spare) (sym c.self.view_is) c.requires.capacity)

pub index_mut-requires : goal.index_mut-requires
index_mut-requires g c = omega (arith, c.self.inside.used.ok.0, subst (λ (v : BlocksView g.row.T.Denot). c.args.block < length v.blocks) (sym c.self.view_is) c.requires.block)

pub cut-requires-clause-long : goal.cut-requires-clause-long
cut-requires-clause-long g c =
    let lt = subst (λ (v : BlocksView g.row.T.Denot). c.args.block < length v.blocks) (sym c.self.view_is) c.requires.block in
    let full = subst (λ (v : BlocksView g.row.T.Denot). length (get_or v.blocks c.args.block []) ≡ 128) (sym c.self.view_is) c.requires.full in
    omega (arith, full, ap length (read_is c.args.block c.self.inside.used.items c.index_mut.result.now lt c.index_mut.ensures.value))

pub overflow_add-block : goal.overflow_add-block
overflow_add-block g c = omega (arith, c.self.invariant.0.few, subst (λ (v : BlocksView g.row.T.Denot). c.args.block < length v.blocks) (sym c.self.view_is) c.requires.block)

pub put_into-requires-clause-within : goal.put_into-requires-clause-within
put_into-requires-clause-within g c =
    let lt = subst (λ (v : BlocksView g.row.T.Denot). c.args.block < length v.blocks) (sym c.self.view_is) c.requires.block in
    omega (arith, lt, length-set c.self.inside.used.items c.args.block c.cut.new.self)

pub put_into-requires-clause-capacity : goal.put_into-requires-clause-capacity
put_into-requires-clause-capacity g c = omega (arith, c.self.invariant.0.usable, c.take_from-high.ensures.count, length-set c.self.inside.used.items c.args.block c.cut.new.self)

pub overflow_sub-self : goal.overflow_sub-self
overflow_sub-self g c =
    let lt = subst (λ (v : BlocksView g.row.T.Denot). c.args.block < length v.blocks) (sym c.self.view_is) c.requires.block in
    let full = subst (λ (v : BlocksView g.row.T.Denot). length (get_or v.blocks c.args.block []) ≡ 128) (sym c.self.view_is) c.requires.full in
    omega (arith, full, over_here c.self.invariant.0 c.args.block lt)

pub renew-requires-clause-few : goal.renew-requires-clause-few
renew-requires-clause-few g c =
    let lt = subst (λ (v : BlocksView g.row.T.Denot). c.args.block < length v.blocks) (sym c.self.view_is) c.requires.block in
    let made = cut_by c.args.block c.self.inside.used.items c.index_mut.result.now lt c.index_mut.ensures.value c.cut.new.self c.cut.new.high c.put_into.new.blocks.items c.cut.ensures.low c.cut.ensures.high c.put_into.ensures.items in
    let same = ap flat (c.as_slice.ensures.value ∙ made) ∙ cut_flat c.args.block c.self.inside.used.items lt in
    omega (arith, many c.self.invariant.0, c.self.invariant.0.all, ap length same)

pub renew-requires-clause-light : goal.renew-requires-clause-light
renew-requires-clause-light g c =
    let lt = subst (λ (v : BlocksView g.row.T.Denot). c.args.block < length v.blocks) (sym c.self.view_is) c.requires.block in
    let made = cut_by c.args.block c.self.inside.used.items c.index_mut.result.now lt c.index_mut.ensures.value c.cut.new.self c.cut.new.high c.put_into.new.blocks.items c.cut.ensures.low c.cut.ensures.high c.put_into.ensures.items in
    let same = ap flat (c.as_slice.ensures.value ∙ made) ∙ cut_flat c.args.block c.self.inside.used.items lt in
    omega (arith, weighs c.self.invariant.0 g.T.Ranked.weight c.self.invariant.4, ap (sum_by g.T.Ranked.weight) same)

pub renew-requires-clause-groups : goal.renew-requires-clause-groups
renew-requires-clause-groups g c =
    let lt = subst (λ (v : BlocksView g.row.T.Denot). c.args.block < length v.blocks) (sym c.self.view_is) c.requires.block in
    let made = cut_by c.args.block c.self.inside.used.items c.index_mut.result.now lt c.index_mut.ensures.value c.cut.new.self c.cut.new.high c.put_into.new.blocks.items c.cut.ensures.low c.cut.ensures.high c.put_into.ensures.items in
    groups_cut g.T.Ranked.weight c.args.block c.self.inside.used.items c.as_slice.result.now c.self.inside.groups.items _ lt (c.as_slice.ensures.value ∙ made) refl c.self.invariant.2

pub renew-requires-clause-capacity : goal.renew-requires-clause-capacity
renew-requires-clause-capacity g c =
    let lt = subst (λ (v : BlocksView g.row.T.Denot). c.args.block < length v.blocks) (sym c.self.view_is) c.requires.block in
    let made = cut_by c.args.block c.self.inside.used.items c.index_mut.result.now lt c.index_mut.ensures.value c.cut.new.self c.cut.new.high c.put_into.new.blocks.items c.cut.ensures.low c.cut.ensures.high c.put_into.ensures.items in
    omega (arith, c.self.invariant.3, ap length (c.as_slice.ensures.value ∙ made) ∙ cut_length c.args.block c.self.inside.used.items lt, c.take_from-high.ensures.count)

pub invariant_of-self : goal.invariant_of-self
invariant_of-self g c =
    let used = c.self.inside.used.items in
    let lt = subst (λ (v : BlocksView g.row.T.Denot). c.args.block < length v.blocks) (sym c.self.view_is) c.requires.block in
    let full = subst (λ (v : BlocksView g.row.T.Denot). length (get_or v.blocks c.args.block []) ≡ 128) (sym c.self.view_is) c.requires.full in
    let capacity = subst (λ (v : BlocksView g.row.T.Denot). 1 ≤ v.spare) (sym c.self.view_is) c.requires.capacity in
    let made = cut_by c.args.block used c.index_mut.result.now lt c.index_mut.ensures.value c.cut.new.self c.cut.new.high c.put_into.new.blocks.items c.cut.ensures.low c.cut.ensures.high c.put_into.ensures.items in
    let count = ap length made ∙ cut_length c.args.block used lt in (
      cut_row c.self.invariant.0 c.args.block c.put_into.new.blocks.items c.take_from-high.new.empty.items _ _ lt full capacity made c.take_from-high.ensures.cleared c.take_from-high.ensures.count (omega (arith, c.put_into.ensures.kept)) (omega (arith, c.take_from-high.ensures.kept)),
      all_cut (λ x. c.self.inside.least ≤ g.T.Ranked.weight x) c.args.block used c.put_into.new.blocks.items c.self.invariant.1 lt made,
      groups_same g.T.Ranked.weight c.as_slice.result.now c.put_into.new.blocks.items c.renew.new.groups.items c.renew.new.groups.items (sym c.as_slice.ensures.value) refl c.renew.ensures.groups,
      omega (arith, c.self.invariant.3, count, c.take_from-high.ensures.count, c.renew.ensures.capacity),
      all_cut (λ x. g.T.Ranked.weight x < 2 ^ 64) c.args.block used c.put_into.new.blocks.items c.self.invariant.4 lt made,
    )

pub returns-clause-blocks : goal.returns-clause-blocks
returns-clause-blocks g c =
    let lt = subst (λ (v : BlocksView g.row.T.Denot). c.args.block < length v.blocks) (sym c.self.view_is) c.requires.block in
    cut_by c.args.block c.self.inside.used.items c.index_mut.result.now lt c.index_mut.ensures.value c.cut.new.self c.cut.new.high c.put_into.new.blocks.items c.cut.ensures.low c.cut.ensures.high c.put_into.ensures.items
    ∙ ap (λ (v : BlocksView g.row.T.Denot). cut_at c.args.block v.blocks) c.self.view_is

pub returns-clause-spare : goal.returns-clause-spare
returns-clause-spare g c =
    let lt = subst (λ (v : BlocksView g.row.T.Denot). c.args.block < length v.blocks) (sym c.self.view_is) c.requires.block in
    let made = cut_by c.args.block c.self.inside.used.items c.index_mut.result.now lt c.index_mut.ensures.value c.cut.new.self c.cut.new.high c.put_into.new.blocks.items c.cut.ensures.low c.cut.ensures.high c.put_into.ensures.items in
    let count = ap length made ∙ cut_length c.args.block c.self.inside.used.items lt in
    let full = subst (λ (v : BlocksView g.row.T.Denot). length (get_or v.blocks c.args.block []) ≡ 128) (sym c.self.view_is) c.requires.full in
    omega (arith, lt, full, over_here c.self.invariant.0 c.args.block lt, count, c.take_from-high.ensures.count, ap (λ (v : BlocksView g.row.T.Denot). v.spare) c.self.view_is)
