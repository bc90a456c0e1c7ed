use Rattle.std.proofs.Common.{List, ap, arith, length, subst, sym, ◌∙◌}
use Rattle.blocks.specs.Groups.{AreGroups}
use Rattle.blocks.specs.Rows.{AreBefore, AreFilled, BlocksView, Rises, flat}
use Rattle.blocks.proofs.sorted.Blocks.before.Goals as goal

pub count_before-requires-clause-filled : goal.count_before-requires-clause-filled
count_before-requires-clause-filled g c = subst (λ (r : List (List g.row.T.Denot)). AreFilled r) (sym c.blocks-2.ensures.blocks) c.blocks-2.ensures.filled

pub count_before-requires-clause-rises : goal.count_before-requires-clause-rises
count_before-requires-clause-rises g c = subst (λ (r : List (List g.row.T.Denot)). Rises g.T.Ranked.major g.T.Ranked.minor (flat r)) (sym c.blocks-2.ensures.blocks) c.self.invariant

pub count_before-requires-clause-few : goal.count_before-requires-clause-few
count_before-requires-clause-few g c = omega (arith, c.len-len.type_inv, c.len-len.ensures, ap (λ (r : List (List g.row.T.Denot)). length (flat r)) c.blocks-2.ensures.blocks)

pub count_before-requires-clause-groups : goal.count_before-requires-clause-groups
count_before-requires-clause-groups g c = subst (λ (r : List (List g.row.T.Denot)). AreGroups g.T.Ranked.weight r c.groups.result.now) (sym c.blocks-2.ensures.blocks) c.groups.ensures.known

pub returns : goal.returns
returns g c =
    subst (λ (r : List (List g.row.T.Denot)). AreBefore g.T.Ranked.major g.T.Ranked.minor c.args.major c.args.minor (flat r) c.count_before.result)
    (c.blocks-2.ensures.blocks ∙ ap (λ (v : BlocksView g.row.T.Denot). v.blocks) c.self.view_is) c.count_before.ensures
