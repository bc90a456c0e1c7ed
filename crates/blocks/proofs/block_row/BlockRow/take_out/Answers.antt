use Rattle.std.proofs.Common.{◌∙◌, ◌<◌, ◌≤◌, ◌^◌, List, [], ap, arith, get_or, length, remove, set, subst, sym}
use Rattle.blocks.specs.Rows.{BlocksView, flat}
use Rattle.blocks.proofs.Bounds.{all_taken}
use Rattle.blocks.proofs.Edits.{seen_length}
use Rattle.blocks.proofs.Grouped.{groups_same, lent, lent_length, lent_set}
use Rattle.blocks.proofs.Capacities.{here_all, many, over_here, over_many, taken_row, taken_spare}
use Rattle.blocks.proofs.block_row.BlockRow.take_out.Goals as goal

pub take_item-item-requires-clause-block : goal.take_item-item-requires-clause-block
take_item-item-requires-clause-block g c =
    let seen = c.as_mut_slice.ensures.value ∙ ap (λ (v : BlocksView g.row.T.Denot). v.blocks) c.self.view_is in
    subst (λ (r : List (List g.row.T.Denot)). c.args.place.block < length r) (sym seen) c.requires.block

pub take_item-item-requires-clause-at : goal.take_item-item-requires-clause-at
take_item-item-requires-clause-at g c =
    let seen = c.as_mut_slice.ensures.value ∙ ap (λ (v : BlocksView g.row.T.Denot). v.blocks) c.self.view_is in
    subst (λ (r : List (List g.row.T.Denot)). c.args.place.at < length (get_or r c.args.place.block [])) (sym seen) c.requires.at

pub take_item-item-requires-clause-few : goal.take_item-item-requires-clause-few
take_item-item-requires-clause-few g c = omega (arith, many c.self.invariant.0, c.self.invariant.0.all, ap (λ (r : List (List g.row.T.Denot)). length (flat r)) c.as_mut_slice.ensures.value)

pub take_item-item-requires-clause-groups : goal.take_item-item-requires-clause-groups
take_item-item-requires-clause-groups g c = groups_same g.T.Ranked.weight _ _ _ _ c.as_mut_slice.ensures.value c.as_mut_slice-2.ensures.value c.self.invariant.2

pub overflow_sub-self : goal.overflow_sub-self
overflow_sub-self g c =
    let lt = subst (λ (v : BlocksView g.row.T.Denot). c.args.place.block < length v.blocks) (sym c.self.view_is) c.requires.block in
    let here = seen_length c.args.place.block c.self.inside.used.items c.as_slice.result.now c.items_of-len.result.now c.items_of-len.ensures.value c.as_slice.ensures.value in
    omega (arith, c.over_of.ensures, here, over_here c.self.invariant.0 c.args.place.block lt)

pub overflow_sub-len : goal.overflow_sub-len
overflow_sub-len g c =
    let here = seen_length c.args.place.block c.self.inside.used.items c.as_slice.result.now c.items_of-len.result.now c.items_of-len.ensures.value c.as_slice.ensures.value ∙ ap (λ (v : BlocksView g.row.T.Denot). length (get_or v.blocks c.args.place.block [])) c.self.view_is in
    omega (arith, here, c.requires.several)

pub overflow_add-self : goal.overflow_add-self
overflow_add-self g c = omega (arith, over_many c.self.invariant.0, c.over_of-2.ensures, c.items_of-len.ensures.most)

pub overflow_sub-self-2 : goal.overflow_sub-self-2
overflow_sub-self-2 g c =
    let lt = subst (λ (v : BlocksView g.row.T.Denot). c.args.place.block < length v.blocks) (sym c.self.view_is) c.requires.block in
    let several = subst (λ (v : BlocksView g.row.T.Denot). 2 ≤ length (get_or v.blocks c.args.place.block [])) (sym c.self.view_is) c.requires.several in
    omega (arith, several, here_all c.self.invariant.0 c.args.place.block lt)

pub invariant_of-self : goal.invariant_of-self
invariant_of-self g c =
    let used = c.self.inside.used.items in
    let k = c.args.place.block in
    let lt = subst (λ (v : BlocksView g.row.T.Denot). k < length v.blocks) (sym c.self.view_is) c.requires.block in
    let at = subst (λ (v : BlocksView g.row.T.Denot). c.args.place.at < length (get_or v.blocks k [])) (sym c.self.view_is) c.requires.at in
    let several = subst (λ (v : BlocksView g.row.T.Denot). 2 ≤ length (get_or v.blocks k [])) (sym c.self.view_is) c.requires.several in
    let len = seen_length k c.self.inside.used.items c.as_slice.result.now c.items_of-len.result.now c.items_of-len.ensures.value c.as_slice.ensures.value in
    let made = lent_set c.self.inside.used.len k c.take_item-item.new.blocks used c.as_mut_slice.result.now (λ (r : List (List g.row.T.Denot)). remove (get_or r k []) c.args.place.at) c.self.inside.used.ok.0 c.as_mut_slice.ensures.value c.take_item-item.ensures.blocks in
    let count = lent_length k c.take_item-item.new.blocks used c.as_mut_slice.result.now (λ (r : List (List g.row.T.Denot)). remove (get_or r k []) c.args.place.at) c.as_mut_slice.ensures.value c.take_item-item.ensures.blocks in
    let back = lent c.self.inside.used.len c.take_item-item.new.blocks used c.self.inside.used.ok.0 count in
    let groups = lent c.self.inside.groups.len c.take_item-item.new.groups c.self.inside.groups.items c.self.inside.groups.ok.0 (c.take_item-item.auto.groups ∙ ap length c.as_mut_slice-2.ensures.value) in (
      taken_row c.self.invariant.0 k c.args.place.at (length c.items_of-len.result.now) c.over_of.result c.over_of-2.result _ _ _ lt at several len c.over_of.ensures c.over_of-2.ensures made (omega arith) (omega arith),
      all_taken (λ x. c.self.inside.least ≤ g.T.Ranked.weight x) k used _ c.self.invariant.1 c.args.place.at lt at made,
      groups_same g.T.Ranked.weight c.take_item-item.new.blocks _ c.take_item-item.new.groups _ back groups c.take_item-item.ensures.groups,
      omega (arith, c.self.invariant.3, ap length back, count),
      all_taken (λ x. g.T.Ranked.weight x < 2 ^ 64) k used _ c.self.invariant.4 c.args.place.at lt at made,
    )

pub returns-clause-item : goal.returns-clause-item
returns-clause-item g c =
    let seen = c.as_mut_slice.ensures.value ∙ ap (λ (v : BlocksView g.row.T.Denot). v.blocks) c.self.view_is in
    c.take_item-item.ensures.item ∙ ap (λ (r : List (List g.row.T.Denot)). get_or (get_or r c.args.place.block []) c.args.place.at c.take_item-item.result) seen

pub returns-clause-blocks : goal.returns-clause-blocks
returns-clause-blocks g c =
    let k = c.args.place.block in
    lent_set c.self.inside.used.len k c.take_item-item.new.blocks c.self.inside.used.items c.as_mut_slice.result.now (λ (r : List (List g.row.T.Denot)). remove (get_or r k []) c.args.place.at) c.self.inside.used.ok.0 c.as_mut_slice.ensures.value c.take_item-item.ensures.blocks
    ∙ ap (λ (v : BlocksView g.row.T.Denot). set v.blocks k (remove (get_or v.blocks k []) c.args.place.at)) c.self.view_is

pub returns-clause-spare : goal.returns-clause-spare
returns-clause-spare g c =
    let k = c.args.place.block in
    let lt = subst (λ (v : BlocksView g.row.T.Denot). k < length v.blocks) (sym c.self.view_is) c.requires.block in
    let len = seen_length k c.self.inside.used.items c.as_slice.result.now c.items_of-len.result.now c.items_of-len.ensures.value c.as_slice.ensures.value in
    let made = lent_set c.self.inside.used.len k c.take_item-item.new.blocks c.self.inside.used.items c.as_mut_slice.result.now (λ (r : List (List g.row.T.Denot)). remove (get_or r k []) c.args.place.at) c.self.inside.used.ok.0 c.as_mut_slice.ensures.value c.take_item-item.ensures.blocks in
    taken_spare c.self.invariant.0 k (length c.items_of-len.result.now) c.over_of.result c.over_of-2.result _ _ lt len c.over_of.ensures c.over_of-2.ensures made (sym (ap (λ (v : BlocksView g.row.T.Denot). v.spare) c.self.view_is))
