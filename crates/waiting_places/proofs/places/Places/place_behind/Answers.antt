use Rattle.std.proofs.Common.{arith}
use Rattle.waiting_places.proofs.Heads.{front_is, rest_is}
use Rattle.waiting_places.proofs.places.Places.place_behind.Goals as goal

pub returns-clause-front : goal.returns-clause-front
returns-clause-front g c =
    let behind = rw c.as_slice.ensures.value at c.place_before.ensures.behind in
    let all = c.self.invariant.count in
    let some = rw (← c.self.view_is) at c.requires in
    rw (← c.self.view_is) (front_is c.self.inside.places.items c.place_before.result c.args.count (omega (arith, behind, all)) some)

pub returns-clause-rest : goal.returns-clause-rest
returns-clause-rest g c =
    let behind = rw c.as_slice.ensures.value at c.place_before.ensures.behind in
    let all = c.self.invariant.count in
    let some = rw (← c.self.view_is) at c.requires in
    rw (← c.self.view_is) (rest_is c.self.inside.places.items c.place_before.result c.args.count (omega (arith, behind, all)) some)
