use Rattle.std.proofs.Common.{List, ap, subst, sym, ◌∙◌}
use Rattle.std.specs.List.Sorted.{IsPartitionedBy}
use Rattle.blocks.specs.Rows.{BlocksView, Rises, entered, flat, stands}
use Rattle.blocks.proofs.Found.{entered_by}
use Rattle.blocks.proofs.Order.{parted, rises-entered}
use Rattle.blocks.proofs.sorted.Blocks.insert.Goals as goal

pub place_of-place-requires-clause-parted : goal.place_of-place-requires-clause-parted
place_of-place-requires-clause-parted g c =
    subst (λ (r : List (List g.row.T.Denot)). IsPartitionedBy (stands g.T.Ranked.major g.T.Ranked.minor c.major.result c.minor.result) (flat r)) (sym c.blocks-2.ensures.blocks)
    (parted g.T.Ranked.major g.T.Ranked.minor c.major.result c.minor.result (flat c.self.inside.row.blocks) c.self.invariant)

pub invariant_of-self : goal.invariant_of-self
invariant_of-self g c =
    let major = g.T.Ranked.major in
    let minor = g.T.Ranked.minor in
    let place = c.place_of-place.result in
    let e = entered_by major minor c.args.item c.blocks-2.result.now c.self.inside.row.blocks (flat c.insert.new.self.blocks) c.major.result c.minor.result place.block place.at c.blocks-2.ensures.blocks c.major.ensures c.minor.ensures c.place_of-place.ensures.place c.insert.ensures.items in
    subst (Rises major minor) (sym e) (rises-entered major minor c.args.item (flat c.self.inside.row.blocks) c.self.invariant)

pub returns-clause-items : goal.returns-clause-items
returns-clause-items g c =
    let major = g.T.Ranked.major in
    let minor = g.T.Ranked.minor in
    let place = c.place_of-place.result in
    entered_by major minor c.args.item c.blocks-2.result.now c.self.inside.row.blocks (flat c.insert.new.self.blocks) c.major.result c.minor.result place.block place.at c.blocks-2.ensures.blocks c.major.ensures c.minor.ensures c.place_of-place.ensures.place c.insert.ensures.items
    ∙ ap (λ (v : BlocksView g.row.T.Denot). entered major minor c.args.item (flat v.blocks)) c.self.view_is
