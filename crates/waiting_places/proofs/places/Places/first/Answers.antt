use Rattle.std.proofs.Common.{rules}
use Rattle.waiting_places.proofs.Heads.{first_of, none_of}
use Rattle.waiting_places.proofs.places.Places.first.Goals as goal

pub returns-then-self-len-clause-item : goal.returns-then-self-len-clause-item
returns-then-self-len-clause-item g c = rw (← c.self.view_is) (first_of c.self.inside.places.items c.self.inside.head c.self.invariant.first (search rules))

pub returns-else-self-len-clause-item : goal.returns-else-self-len-clause-item
returns-else-self-len-clause-item g c = rw (← c.self.view_is) (none_of c.self.inside.places.items c.self.inside.head c.self.invariant.first (search rules))
