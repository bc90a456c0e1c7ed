use Rattle.std.proofs.Common.{◌≡◌, ◌+◌, ◌≤◌, ◌<◌, ◌^◌, [], ap, arith, get_or, length, refl, remove, subst, sym, ◌∙◌}
use Rattle.std.specs.List.{sum_by}
use Rattle.std.proofs.lemmas.List.Edits.{length-remove}
use Rattle.std.proofs.lemmas.List.Sums.{sum_by-remove}
use Rattle.blocks.specs.Rows.{BlocksView, flat, start}
use Rattle.blocks.proofs.Bounds.{all_retired}
use Rattle.blocks.proofs.Edits.{only_by, read_is, retired_flat}
use Rattle.blocks.proofs.Found.{inside_flat}
use Rattle.blocks.proofs.Grouped.{groups_retired, groups_same, retired_length}
use Rattle.blocks.proofs.Capacities.{here_all, many, retired_row, weighs}
use Rattle.blocks.proofs.block_row.BlockRow.retire.Goals as goal

pub remove-last-requires : goal.remove-last-requires
remove-last-requires g c = omega (arith, c.self.inside.used.ok.0, subst (λ (v : BlocksView g.row.T.Denot). c.args.block < length v.blocks) (sym c.self.view_is) c.requires.block)

pub remove-item-requires : goal.remove-item-requires
remove-item-requires g c =
    let lt = subst (λ (v : BlocksView g.row.T.Denot). c.args.block < length v.blocks) (sym c.self.view_is) c.requires.block in
    let one = subst (λ (v : BlocksView g.row.T.Denot). length (get_or v.blocks c.args.block []) ≡ 1) (sym c.self.view_is) c.requires.one in
    omega (arith, one, ap length (read_is c.args.block c.self.inside.used.items c.remove-last.result lt c.remove-last.ensures.value))

pub keep_in-requires-clause-none : goal.keep_in-requires-clause-none
keep_in-requires-clause-none g c =
    let lt = subst (λ (v : BlocksView g.row.T.Denot). c.args.block < length v.blocks) (sym c.self.view_is) c.requires.block in
    let one = subst (λ (v : BlocksView g.row.T.Denot). length (get_or v.blocks c.args.block []) ≡ 1) (sym c.self.view_is) c.requires.one in
    only_by c.args.block c.self.inside.used.items c.remove-last.result lt c.remove-last.ensures.value c.remove-item.new.self one c.remove-item.ensures.left

pub keep_in-requires-clause-capacity : goal.keep_in-requires-clause-capacity
keep_in-requires-clause-capacity g c =
    let lt = subst (λ (v : BlocksView g.row.T.Denot). c.args.block < length v.blocks) (sym c.self.view_is) c.requires.block in
    omega (arith, lt, c.self.invariant.0.returnable)

pub renew-requires-clause-few : goal.renew-requires-clause-few
renew-requires-clause-few g c =
    let lt = subst (λ (v : BlocksView g.row.T.Denot). c.args.block < length v.blocks) (sym c.self.view_is) c.requires.block in
    let one = subst (λ (v : BlocksView g.row.T.Denot). length (get_or v.blocks c.args.block []) ≡ 1) (sym c.self.view_is) c.requires.one in
    let same = retired_flat c.args.block c.self.inside.used.items c.as_slice.result.now lt one (c.as_slice.ensures.value ∙ c.remove-last.ensures.items) in
    let within = inside_flat c.args.block 0 c.self.inside.used.items (omega (arith, one)) in
    omega (arith, many c.self.invariant.0, c.self.invariant.0.all, ap length same, length-remove (flat c.self.inside.used.items) (start c.args.block c.self.inside.used.items + 0) within)

pub renew-requires-clause-light : goal.renew-requires-clause-light
renew-requires-clause-light g c =
    let lt = subst (λ (v : BlocksView g.row.T.Denot). c.args.block < length v.blocks) (sym c.self.view_is) c.requires.block in
    let one = subst (λ (v : BlocksView g.row.T.Denot). length (get_or v.blocks c.args.block []) ≡ 1) (sym c.self.view_is) c.requires.one in
    let same = retired_flat c.args.block c.self.inside.used.items c.as_slice.result.now lt one (c.as_slice.ensures.value ∙ c.remove-last.ensures.items) in
    let within = inside_flat c.args.block 0 c.self.inside.used.items (omega (arith, one)) in
    omega (arith, weighs c.self.invariant.0 g.T.Ranked.weight c.self.invariant.4, ap (sum_by g.T.Ranked.weight) same, sum_by-remove g.T.Ranked.weight (flat c.self.inside.used.items) (start c.args.block c.self.inside.used.items + 0) c.remove-item.result within)

pub renew-requires-clause-groups : goal.renew-requires-clause-groups
renew-requires-clause-groups g c =
    let lt = subst (λ (v : BlocksView g.row.T.Denot). c.args.block < length v.blocks) (sym c.self.view_is) c.requires.block in
    groups_retired g.T.Ranked.weight c.args.block c.self.inside.used.items c.as_slice.result.now c.self.inside.groups.items _ lt (c.as_slice.ensures.value ∙ c.remove-last.ensures.items) refl c.self.invariant.2

pub renew-requires-clause-capacity : goal.renew-requires-clause-capacity
renew-requires-clause-capacity g c =
    let lt = subst (λ (v : BlocksView g.row.T.Denot). c.args.block < length v.blocks) (sym c.self.view_is) c.requires.block in
    omega (arith, c.self.invariant.3, retired_length g.T.Ranked.weight c.args.block c.self.inside.used.items c.as_slice.result.now lt (c.as_slice.ensures.value ∙ c.remove-last.ensures.items))

pub overflow_sub-self : goal.overflow_sub-self
overflow_sub-self g c =
    let lt = subst (λ (v : BlocksView g.row.T.Denot). c.args.block < length v.blocks) (sym c.self.view_is) c.requires.block in
    let one = subst (λ (v : BlocksView g.row.T.Denot). length (get_or v.blocks c.args.block []) ≡ 1) (sym c.self.view_is) c.requires.one in
    omega (arith, one, here_all c.self.invariant.0 c.args.block lt)

pub invariant_of-self : goal.invariant_of-self
invariant_of-self g c =
    let used = c.self.inside.used.items in
    let left = c.remove-last.ensures.items in
    let lt = subst (λ (v : BlocksView g.row.T.Denot). c.args.block < length v.blocks) (sym c.self.view_is) c.requires.block in
    let one = subst (λ (v : BlocksView g.row.T.Denot). length (get_or v.blocks c.args.block []) ≡ 1) (sym c.self.view_is) c.requires.one in (
      retired_row c.self.invariant.0 c.args.block c.remove-last.new.self.items c.keep_in.new.empty.items _ _ lt one left c.keep_in.ensures.cleared c.keep_in.ensures.count (omega (arith, c.remove-last.ensures.capacity)) c.keep_in.ensures.kept,
      all_retired (λ x. c.self.inside.least ≤ g.T.Ranked.weight x) c.args.block used c.remove-last.new.self.items c.self.invariant.1 lt one left,
      groups_same g.T.Ranked.weight c.as_slice.result.now c.remove-last.new.self.items c.renew.new.groups.items c.renew.new.groups.items (sym c.as_slice.ensures.value) refl c.renew.ensures.groups,
      omega (arith, c.self.invariant.3, retired_length g.T.Ranked.weight c.args.block used c.remove-last.new.self.items lt left, c.keep_in.ensures.count, c.renew.ensures.capacity),
      all_retired (λ x. g.T.Ranked.weight x < 2 ^ 64) c.args.block used c.remove-last.new.self.items c.self.invariant.4 lt one left,
    )

pub returns-clause-item : goal.returns-clause-item
returns-clause-item g c =
    let lt = subst (λ (v : BlocksView g.row.T.Denot). c.args.block < length v.blocks) (sym c.self.view_is) c.requires.block in
    c.remove-item.ensures.item
    ∙ ap (λ l. get_or l 0 c.remove-item.result) (read_is c.args.block c.self.inside.used.items c.remove-last.result lt c.remove-last.ensures.value ∙ ap (λ (v : BlocksView g.row.T.Denot). get_or v.blocks c.args.block []) c.self.view_is)

pub returns-clause-blocks : goal.returns-clause-blocks
returns-clause-blocks g c = c.remove-last.ensures.items ∙ ap (λ (v : BlocksView g.row.T.Denot). remove v.blocks c.args.block) c.self.view_is

pub returns-clause-spare : goal.returns-clause-spare
returns-clause-spare g c =
    let lt = subst (λ (v : BlocksView g.row.T.Denot). c.args.block < length v.blocks) (sym c.self.view_is) c.requires.block in
    omega (arith, retired_length g.T.Ranked.weight c.args.block c.self.inside.used.items c.remove-last.new.self.items lt c.remove-last.ensures.items, c.keep_in.ensures.count, ap (λ (v : BlocksView g.row.T.Denot). v.spare) c.self.view_is)
