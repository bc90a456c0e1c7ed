use Rattle.std.proofs.Common.{List, ap, sym, subst, ◌∙◌, take}
use Rattle.std.specs.List.{sum_by}
use Rattle.std.specs.List.Sorted.{IsPartitionedBy}
use Rattle.blocks.specs.Rows.{BlocksView, flat, place_in, stands}
use Rattle.blocks.proofs.Order.{parted}
use Rattle.blocks.proofs.sorted.Blocks.weight_before.Goals as goal

pub weight_before-requires-clause-parted : goal.weight_before-requires-clause-parted
weight_before-requires-clause-parted g c =
    subst (λ (r : List (List g.row.T.Denot)). IsPartitionedBy (stands g.T.Ranked.major g.T.Ranked.minor c.args.major c.args.minor) (flat r)) (sym c.blocks-2.ensures.blocks)
    (parted g.T.Ranked.major g.T.Ranked.minor c.args.major c.args.minor (flat c.self.inside.row.blocks) c.self.invariant)

pub returns : goal.returns
returns g c =
    c.weight_before.ensures
    ∙ ap (λ (r : List (List g.row.T.Denot)). sum_by g.T.Ranked.weight (take (place_in g.T.Ranked.major g.T.Ranked.minor c.args.major c.args.minor (flat r)) (flat r))) c.blocks-2.ensures.blocks
    ∙ ap (λ (v : BlocksView g.row.T.Denot). sum_by g.T.Ranked.weight (take (place_in g.T.Ranked.major g.T.Ranked.minor c.args.major c.args.minor (flat v.blocks)) (flat v.blocks))) c.self.view_is
