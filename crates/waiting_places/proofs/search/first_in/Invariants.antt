use Rattle.waiting_places.specs.Offers.{fits, holds}
use Rattle.waiting_places.specs.Places.{NonePasses}
use Rattle.waiting_places.proofs.search.first_in.Given as goal

abbrev pub invariant-loop-place : goal.invariant-loop-place
invariant-loop-place g l = NonePasses (holds (fits g.T.Waits.size g.T.Waits.estimate l.offer)) l.places l.from l.place
