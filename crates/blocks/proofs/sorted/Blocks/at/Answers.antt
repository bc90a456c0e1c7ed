use Rattle.std.proofs.Common.{List, ap, arith, length, slice_get, subst, sym, ◌∙◌}
use Rattle.blocks.specs.Groups.{AreGroups}
use Rattle.blocks.specs.Rows.{BlocksView, flat}
use Rattle.blocks.proofs.sorted.Blocks.at.Goals as goal

pub item_at-requires-clause-few : goal.item_at-requires-clause-few
item_at-requires-clause-few g c = omega (arith, c.blocks-2.ensures.few, ap length c.blocks-2.ensures.blocks)

pub item_at-requires-clause-groups : goal.item_at-requires-clause-groups
item_at-requires-clause-groups g c = subst (λ (r : List (List g.row.T.Denot)). AreGroups g.T.Ranked.weight r c.groups.result.now) (sym c.blocks-2.ensures.blocks) c.groups.ensures.known

pub returns : goal.returns
returns g c =
    c.item_at.ensures ∙ ap (λ (r : List (List g.row.T.Denot)). slice_get (flat r) c.args.place) c.blocks-2.ensures.blocks ∙ ap (λ (v : BlocksView g.row.T.Denot). slice_get (flat v.blocks) c.args.place) c.self.view_is
