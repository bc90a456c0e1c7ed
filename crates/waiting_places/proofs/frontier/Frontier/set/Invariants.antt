use Rattle.waiting_places.proofs.Below.{FirstAreBelow}
use Rattle.waiting_places.proofs.frontier.Frontier.set.Given as goal

abbrev pub invariant-loop-place : goal.invariant-loop-place
invariant-loop-place g l = FirstAreBelow g.T.Waits.size g.T.Waits.estimate l.self l.places l.place-index
