use Rattle.std.proofs.Common.{◌∙◌, ◌<◌, ◌≤◌, ◌^◌, List, [], ap, arith, get_or, insert, length, set, subst, sym}
use Rattle.std.specs.List.{sum_by}
use Rattle.blocks.specs.Rows.{BlocksView, flat}
use Rattle.blocks.proofs.Bounds.{all_put, lower}
use Rattle.blocks.proofs.Edits.{seen_length}
use Rattle.blocks.proofs.Grouped.{groups_same, lent, lent_length, lent_set}
use Rattle.blocks.proofs.Capacities.{many, over_here, over_many, put_kept, put_row, put_spare, weighs}
use Rattle.blocks.proofs.block_row.BlockRow.put.Goals as goal

pub put_item-requires-clause-block : goal.put_item-requires-clause-block
put_item-requires-clause-block g c =
    let seen = c.as_mut_slice.ensures.value ∙ ap (λ (v : BlocksView g.row.T.Denot). v.blocks) c.self.view_is in
    subst (λ (r : List (List g.row.T.Denot)). c.args.place.block < length r) (sym seen) c.requires.block

pub put_item-requires-clause-within : goal.put_item-requires-clause-within
put_item-requires-clause-within g c =
    let seen = c.as_mut_slice.ensures.value ∙ ap (λ (v : BlocksView g.row.T.Denot). v.blocks) c.self.view_is in
    subst (λ (r : List (List g.row.T.Denot)). c.args.place.at ≤ length (get_or r c.args.place.block [])) (sym seen) c.requires.within

pub put_item-requires-clause-short : goal.put_item-requires-clause-short
put_item-requires-clause-short g c =
    let seen = c.as_mut_slice.ensures.value ∙ ap (λ (v : BlocksView g.row.T.Denot). v.blocks) c.self.view_is in
    subst (λ (r : List (List g.row.T.Denot)). length (get_or r c.args.place.block []) < 128) (sym seen) c.requires.short

pub put_item-requires-clause-few : goal.put_item-requires-clause-few
put_item-requires-clause-few g c = omega (arith, many c.self.invariant.0, c.self.invariant.0.all, ap (λ (r : List (List g.row.T.Denot)). length (flat r)) c.as_mut_slice.ensures.value)

pub put_item-requires-clause-light : goal.put_item-requires-clause-light
put_item-requires-clause-light g c =
    omega (arith, weighs c.self.invariant.0 g.T.Ranked.weight c.self.invariant.4, ap (λ (r : List (List g.row.T.Denot)). sum_by g.T.Ranked.weight (flat r)) c.as_mut_slice.ensures.value)

pub put_item-requires-clause-groups : goal.put_item-requires-clause-groups
put_item-requires-clause-groups g c = groups_same g.T.Ranked.weight _ _ _ _ c.as_mut_slice.ensures.value c.as_mut_slice-2.ensures.value c.self.invariant.2

pub overflow_sub-self : goal.overflow_sub-self
overflow_sub-self g c =
    let lt = subst (λ (v : BlocksView g.row.T.Denot). c.args.place.block < length v.blocks) (sym c.self.view_is) c.requires.block in
    let here = seen_length c.args.place.block c.self.inside.used.items c.as_slice.result.now c.items_of-len.result.now c.items_of-len.ensures.value c.as_slice.ensures.value in
    omega (arith, c.over_of.ensures, here, over_here c.self.invariant.0 c.args.place.block lt)

pub overflow_add-self : goal.overflow_add-self
overflow_add-self g c = omega (arith, over_many c.self.invariant.0, c.over_of-2.ensures, c.items_of-len.ensures.most)

pub overflow_add-self-2 : goal.overflow_add-self-2
overflow_add-self-2 g c = omega (arith, many c.self.invariant.0)

pub invariant_of-self : goal.invariant_of-self
invariant_of-self g c =
    let used = c.self.inside.used.items in
    let k = c.args.place.block in
    let lt = subst (λ (v : BlocksView g.row.T.Denot). k < length v.blocks) (sym c.self.view_is) c.requires.block in
    let le = subst (λ (v : BlocksView g.row.T.Denot). c.args.place.at ≤ length (get_or v.blocks k [])) (sym c.self.view_is) c.requires.within in
    let short = subst (λ (v : BlocksView g.row.T.Denot). length (get_or v.blocks k []) < 128) (sym c.self.view_is) c.requires.short in
    let capacity = subst (λ (v : BlocksView g.row.T.Denot). 64 < length (get_or v.blocks k []) → 1 ≤ v.spare) (sym c.self.view_is) c.requires.capacity in
    let len = seen_length k c.self.inside.used.items c.as_slice.result.now c.items_of-len.result.now c.items_of-len.ensures.value c.as_slice.ensures.value in
    let made = lent_set c.self.inside.used.len k c.put_item.new.blocks used c.as_mut_slice.result.now (λ (r : List (List g.row.T.Denot)). insert (get_or r k []) c.args.place.at c.args.item) c.self.inside.used.ok.0 c.as_mut_slice.ensures.value c.put_item.ensures.blocks in
    let count = lent_length k c.put_item.new.blocks used c.as_mut_slice.result.now (λ (r : List (List g.row.T.Denot)). insert (get_or r k []) c.args.place.at c.args.item) c.as_mut_slice.ensures.value c.put_item.ensures.blocks in
    let back = lent c.self.inside.used.len c.put_item.new.blocks used c.self.inside.used.ok.0 count in
    let groups = lent c.self.inside.groups.len c.put_item.new.groups c.self.inside.groups.items c.self.inside.groups.ok.0 (c.put_item.auto.groups ∙ ap length c.as_mut_slice-2.ensures.value) in (
      put_row c.self.invariant.0 k c.args.place.at (length c.items_of-len.result.now) c.over_of.result c.over_of-2.result _ c.args.item _ _ lt le short capacity len c.over_of.ensures c.over_of-2.ensures made (omega arith) (omega arith),
      all_put (λ x. c.min-self-inside.result ≤ g.T.Ranked.weight x) k used _ (lower g.T.Ranked.weight c.self.inside.least c.min-self-inside.result (flat used) (omega arith) c.self.invariant.1) c.args.place.at c.args.item lt le made (omega arith),
      groups_same g.T.Ranked.weight c.put_item.new.blocks _ c.put_item.new.groups _ back groups c.put_item.ensures.groups,
      omega (arith, c.self.invariant.3, ap length back, count),
      all_put (λ x. g.T.Ranked.weight x < 2 ^ 64) k used _ c.self.invariant.4 c.args.place.at c.args.item lt le made (omega arith),
    )

pub returns-clause-blocks : goal.returns-clause-blocks
returns-clause-blocks g c =
    let k = c.args.place.block in
    lent_set c.self.inside.used.len k c.put_item.new.blocks c.self.inside.used.items c.as_mut_slice.result.now (λ (r : List (List g.row.T.Denot)). insert (get_or r k []) c.args.place.at c.args.item) c.self.inside.used.ok.0 c.as_mut_slice.ensures.value c.put_item.ensures.blocks
    ∙ ap (λ (v : BlocksView g.row.T.Denot). set v.blocks k (insert (get_or v.blocks k []) c.args.place.at c.args.item)) c.self.view_is

pub returns-clause-spare : goal.returns-clause-spare
returns-clause-spare g c =
    let k = c.args.place.block in
    let lt = subst (λ (v : BlocksView g.row.T.Denot). k < length v.blocks) (sym c.self.view_is) c.requires.block in
    let len = seen_length k c.self.inside.used.items c.as_slice.result.now c.items_of-len.result.now c.items_of-len.ensures.value c.as_slice.ensures.value in
    let made = lent_set c.self.inside.used.len k c.put_item.new.blocks c.self.inside.used.items c.as_mut_slice.result.now (λ (r : List (List g.row.T.Denot)). insert (get_or r k []) c.args.place.at c.args.item) c.self.inside.used.ok.0 c.as_mut_slice.ensures.value c.put_item.ensures.blocks in
    put_spare c.self.invariant.0 k (length c.items_of-len.result.now) c.over_of.result c.over_of-2.result _ _ lt len c.over_of.ensures c.over_of-2.ensures made (sym (ap (λ (v : BlocksView g.row.T.Denot). v.spare) c.self.view_is))

pub returns-clause-kept : goal.returns-clause-kept
returns-clause-kept g c =
    let k = c.args.place.block in
    let len = seen_length k c.self.inside.used.items c.as_slice.result.now c.items_of-len.result.now c.items_of-len.ensures.value c.as_slice.ensures.value ∙ ap (λ (v : BlocksView g.row.T.Denot). length (get_or v.blocks k [])) c.self.view_is in
    let made = lent_set c.self.inside.used.len k c.put_item.new.blocks c.self.inside.used.items c.as_mut_slice.result.now (λ (r : List (List g.row.T.Denot)). insert (get_or r k []) c.args.place.at c.args.item) c.self.inside.used.ok.0 c.as_mut_slice.ensures.value c.put_item.ensures.blocks in
    λ short. put_kept c.self.invariant.0 (length c.items_of-len.result.now) c.over_of.result c.over_of-2.result k _ _ (omega (arith, len, short)) c.over_of.ensures c.over_of-2.ensures made (sym (ap (λ (v : BlocksView g.row.T.Denot). v.spare) c.self.view_is))
