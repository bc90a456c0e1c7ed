use Rattle.std.proofs.Common.{◌/◌, length, arith, refl}
use Rattle.waiting_places.specs.Offers.{fits, holds}
use Rattle.waiting_places.proofs.First.{behind_leaf}
use Rattle.waiting_places.proofs.search.first_in_tree.Goals as goal

pub returns-clause-first : goal.returns-clause-first
returns-clause-first g c =
    let nodes = c.first_below.new.nodes in
    let capacity = c.first_below.ensures.tree.capacity in
    let power = c.first_below.ensures.tree.whole.power in
    behind_leaf (holds (fits g.T.Waits.size g.T.Waits.estimate c.args.offer.now)) c.args.places.now refl c.args.from (length nodes / 2) (omega (arith, capacity, power)) c.first_below-2.result c.in_default.ensures.first c.first_below-2.ensures.first
