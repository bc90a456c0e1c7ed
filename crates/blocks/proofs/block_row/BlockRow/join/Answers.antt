use Rattle.std.proofs.Common.{◌+◌, ◌<◌, ◌≤◌, ◌^◌, [], ap, arith, get_or, length, refl, subst, sym, ◌∙◌}
use Rattle.std.specs.List.{sum_by}
use Rattle.blocks.specs.Rows.{BlocksView, joined_at}
use Rattle.blocks.proofs.Bounds.{all_joined}
use Rattle.blocks.proofs.Edits.{join_by, join_flat, join_length, join_reads}
use Rattle.blocks.proofs.Grouped.{groups_joined, groups_same}
use Rattle.blocks.proofs.Capacities.{joined_row, many, weighs}
use Rattle.blocks.proofs.block_row.BlockRow.join.Goals as goal

pub overflow_add-block : goal.overflow_add-block
overflow_add-block g c = omega (arith, c.self.invariant.0.few, subst (λ (v : BlocksView g.row.T.Denot). c.args.block + 1 < length v.blocks) (sym c.self.view_is) c.requires.block)

pub remove-next-requires : goal.remove-next-requires
remove-next-requires g c = omega (arith, c.self.inside.used.ok.0, subst (λ (v : BlocksView g.row.T.Denot). c.args.block + 1 < length v.blocks) (sym c.self.view_is) c.requires.block)

pub index_mut-requires : goal.index_mut-requires
index_mut-requires g c =
    let lt = subst (λ (v : BlocksView g.row.T.Denot). c.args.block + 1 < length v.blocks) (sym c.self.view_is) c.requires.block in
    omega (arith, lt, c.self.inside.used.ok.0, c.remove-next.ensures.len)

pub join-requires : goal.join-requires
join-requires g c =
    let lt = subst (λ (v : BlocksView g.row.T.Denot). c.args.block + 1 < length v.blocks) (sym c.self.view_is) c.requires.block in
    let short = subst (λ (v : BlocksView g.row.T.Denot). length (get_or v.blocks c.args.block []) + length (get_or v.blocks (c.args.block + 1) []) ≤ 64) (sym c.self.view_is) c.requires.short in
    let read = join_reads c.args.block c.self.inside.used.items c.remove-next.new.self.items c.index_mut.result.now c.remove-next.result lt c.remove-next.ensures.items c.remove-next.ensures.value c.index_mut.ensures.value in
    omega (arith, short, ap length read.0, ap length read.1)

pub keep_in-requires-clause-capacity : goal.keep_in-requires-clause-capacity
keep_in-requires-clause-capacity g c =
    let lt = subst (λ (v : BlocksView g.row.T.Denot). c.args.block + 1 < length v.blocks) (sym c.self.view_is) c.requires.block in
    omega (arith, lt, c.self.invariant.0.returnable)

pub renew-requires-clause-few : goal.renew-requires-clause-few
renew-requires-clause-few g c =
    let lt = subst (λ (v : BlocksView g.row.T.Denot). c.args.block + 1 < length v.blocks) (sym c.self.view_is) c.requires.block in
    let made = join_by c.args.block c.self.inside.used.items c.remove-next.new.self.items c.index_mut.result.now c.remove-next.result c.join.new.self lt c.remove-next.ensures.items c.remove-next.ensures.value c.index_mut.ensures.value c.join.ensures.all in
    let same = join_flat c.args.block c.self.inside.used.items c.as_slice.result.now lt (c.as_slice.ensures.value ∙ made) in
    omega (arith, many c.self.invariant.0, c.self.invariant.0.all, ap length same)

pub renew-requires-clause-light : goal.renew-requires-clause-light
renew-requires-clause-light g c =
    let lt = subst (λ (v : BlocksView g.row.T.Denot). c.args.block + 1 < length v.blocks) (sym c.self.view_is) c.requires.block in
    let made = join_by c.args.block c.self.inside.used.items c.remove-next.new.self.items c.index_mut.result.now c.remove-next.result c.join.new.self lt c.remove-next.ensures.items c.remove-next.ensures.value c.index_mut.ensures.value c.join.ensures.all in
    let same = join_flat c.args.block c.self.inside.used.items c.as_slice.result.now lt (c.as_slice.ensures.value ∙ made) in
    omega (arith, weighs c.self.invariant.0 g.T.Ranked.weight c.self.invariant.4, ap (sum_by g.T.Ranked.weight) same)

pub renew-requires-clause-groups : goal.renew-requires-clause-groups
renew-requires-clause-groups g c =
    let lt = subst (λ (v : BlocksView g.row.T.Denot). c.args.block + 1 < length v.blocks) (sym c.self.view_is) c.requires.block in
    let made = join_by c.args.block c.self.inside.used.items c.remove-next.new.self.items c.index_mut.result.now c.remove-next.result c.join.new.self lt c.remove-next.ensures.items c.remove-next.ensures.value c.index_mut.ensures.value c.join.ensures.all in
    groups_joined g.T.Ranked.weight c.args.block c.self.inside.used.items c.as_slice.result.now c.self.inside.groups.items _ lt (c.as_slice.ensures.value ∙ made) refl c.self.invariant.2

pub renew-requires-clause-capacity : goal.renew-requires-clause-capacity
renew-requires-clause-capacity g c =
    let lt = subst (λ (v : BlocksView g.row.T.Denot). c.args.block + 1 < length v.blocks) (sym c.self.view_is) c.requires.block in
    let made = join_by c.args.block c.self.inside.used.items c.remove-next.new.self.items c.index_mut.result.now c.remove-next.result c.join.new.self lt c.remove-next.ensures.items c.remove-next.ensures.value c.index_mut.ensures.value c.join.ensures.all in
    omega (arith, c.self.invariant.3, ap (λ r. length r + 1) (c.as_slice.ensures.value ∙ made) ∙ join_length c.args.block c.self.inside.used.items lt)

pub invariant_of-self : goal.invariant_of-self
invariant_of-self g c =
    let used = c.self.inside.used.items in
    let lt = subst (λ (v : BlocksView g.row.T.Denot). c.args.block + 1 < length v.blocks) (sym c.self.view_is) c.requires.block in
    let short = subst (λ (v : BlocksView g.row.T.Denot). length (get_or v.blocks c.args.block []) + length (get_or v.blocks (c.args.block + 1) []) ≤ 64) (sym c.self.view_is) c.requires.short in
    let made = join_by c.args.block used c.remove-next.new.self.items c.index_mut.result.now c.remove-next.result c.join.new.self lt c.remove-next.ensures.items c.remove-next.ensures.value c.index_mut.ensures.value c.join.ensures.all in
    let count = ap (λ r. length r + 1) made ∙ join_length c.args.block used lt in (
      joined_row c.self.invariant.0 c.args.block _ c.keep_in.new.empty.items _ _ lt short made c.keep_in.ensures.cleared c.keep_in.ensures.count (omega (arith, c.remove-next.ensures.capacity)) c.keep_in.ensures.kept,
      all_joined (λ x. c.self.inside.least ≤ g.T.Ranked.weight x) c.args.block used _ c.self.invariant.1 lt made,
      groups_same g.T.Ranked.weight c.as_slice.result.now _ c.renew.new.groups.items c.renew.new.groups.items (sym c.as_slice.ensures.value) refl c.renew.ensures.groups,
      omega (arith, c.self.invariant.3, count, c.keep_in.ensures.count, c.renew.ensures.capacity),
      all_joined (λ x. g.T.Ranked.weight x < 2 ^ 64) c.args.block used _ c.self.invariant.4 lt made,
    )

pub returns-clause-blocks : goal.returns-clause-blocks
returns-clause-blocks g c =
    let lt = subst (λ (v : BlocksView g.row.T.Denot). c.args.block + 1 < length v.blocks) (sym c.self.view_is) c.requires.block in
    join_by c.args.block c.self.inside.used.items c.remove-next.new.self.items c.index_mut.result.now c.remove-next.result c.join.new.self lt c.remove-next.ensures.items c.remove-next.ensures.value c.index_mut.ensures.value c.join.ensures.all
    ∙ ap (λ (v : BlocksView g.row.T.Denot). joined_at c.args.block v.blocks) c.self.view_is

pub returns-clause-spare : goal.returns-clause-spare
returns-clause-spare g c =
    let lt = subst (λ (v : BlocksView g.row.T.Denot). c.args.block + 1 < length v.blocks) (sym c.self.view_is) c.requires.block in
    let made = join_by c.args.block c.self.inside.used.items c.remove-next.new.self.items c.index_mut.result.now c.remove-next.result c.join.new.self lt c.remove-next.ensures.items c.remove-next.ensures.value c.index_mut.ensures.value c.join.ensures.all in
    omega (arith, lt, ap (λ r. length r + 1) made ∙ join_length c.args.block c.self.inside.used.items lt, c.keep_in.ensures.count, ap (λ (v : BlocksView g.row.T.Denot). v.spare) c.self.view_is)
