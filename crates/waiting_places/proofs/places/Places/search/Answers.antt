use Rattle.waiting_places.proofs.Refusals.{first_too}
use Rattle.waiting_places.proofs.places.Places.search.Goals as goal

pub remember-requires : goal.remember-requires
remember-requires g c =
    let inside = c.self.inside in
    first_too g.T.Waits.size g.T.Waits.estimate inside.places.items inside.refused c.self.invariant.unfit c.args.from c.behind-known.result c.args.offer.now c.behind-known.ensures c.first_from-found.result (rw c.as_slice.ensures.value at c.first_from-found.ensures.first)

pub returns-clause-place : goal.returns-clause-place
returns-clause-place g c =
    let inside = c.self.inside in
    rw (← c.self.view_is)
    (first_too g.T.Waits.size g.T.Waits.estimate inside.places.items inside.refused c.self.invariant.unfit c.args.from c.behind-known.result c.args.offer.now c.behind-known.ensures c.first_from-found.result (rw c.as_slice.ensures.value at c.first_from-found.ensures.first))
