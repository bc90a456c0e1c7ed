use Rattle.std.proofs.Common.{List, ap, find, subst, sym, ◌∙◌}
use Rattle.blocks.specs.Rows.{BlocksView, Rises, flat, is_at}
use Rattle.blocks.proofs.Found.{left_by, taken_item}
use Rattle.blocks.proofs.Order.{rises-without}
use Rattle.blocks.proofs.sorted.Blocks.remove.Goals as goal

pub invariant_of-self : goal.invariant_of-self
invariant_of-self g c =
    let major = g.T.Ranked.major in
    let minor = g.T.Ranked.minor in
    let test = is_at major minor c.args.major c.args.minor in
    let place = c.in_ok-place.place in
    let e = left_by test place.block place.at c.blocks-2.result.now c.self.inside.row.blocks (flat c.remove.new.self.blocks) c.blocks-2.ensures.blocks c.in_ok-place.ensures.left c.remove.ensures.items in
    subst (Rises major minor) (sym e) (rises-without major minor test (flat c.self.inside.row.blocks) c.self.invariant)

pub returns-clause-item : goal.returns-clause-item
returns-clause-item g c =
    let test = is_at g.T.Ranked.major g.T.Ranked.minor c.args.major c.args.minor in
    let place = c.in_ok-place.place in
    taken_item place.block place.at c.blocks-2.result.now c.self.inside.row.blocks c.remove.result (find test (flat c.blocks-2.result.now)) c.blocks-2.ensures.blocks c.in_ok-place.ensures.block c.in_ok-place.ensures.at c.in_ok-place.ensures.item c.remove.ensures.item
    ∙ ap (λ (r : List (List g.row.T.Denot)). find test (flat r)) c.blocks-2.ensures.blocks ∙ ap (λ (v : BlocksView g.row.T.Denot). find test (flat v.blocks)) c.self.view_is
