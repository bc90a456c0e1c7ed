use Rattle.std.proofs.Common.{is_some}
use Rattle.waiting_places.specs.Places.{NonePasses}
use Rattle.waiting_places.proofs.search.first_some.Given as goal

abbrev pub invariant-loop-place : goal.invariant-loop-place
invariant-loop-place g l = NonePasses is_some l.places l.from l.place
