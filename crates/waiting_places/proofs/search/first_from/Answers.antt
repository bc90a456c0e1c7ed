use Rattle.std.proofs.Common.{◌*◌, ◌/◌, length, arith, subst}
use Rattle.waiting_places.specs.Offers.{fits, holds}
use Rattle.waiting_places.specs.Places.{IsFirst}
use Rattle.waiting_places.proofs.First.{found_behind, found_in_front}
use Rattle.waiting_places.proofs.search.first_from.Goals as goal

pub returns-in-Some-clause-first : goal.returns-in-Some-clause-first
returns-in-Some-clause-first g c =
    let places = c.args.places.now in
    let end = 64 * (length places / 64) in
    let test = holds (fits g.T.Waits.size g.T.Waits.estimate c.args.offer.now) in
    found_in_front test places c.args.from end (omega arith) c.in-Some.place c.in-Some.ensures.first

pub returns-clause-first : goal.returns-clause-first
returns-clause-first g c =
    let places = c.args.places.now in
    let end = 64 * (length places / 64) in
    let test = holds (fits g.T.Waits.size g.T.Waits.estimate c.args.offer.now) in
    found_behind test places c.args.from end (omega arith) c.first_in-2.result c.in_default.ensures.first (subst (λ n. IsFirst test places n (length places) c.first_in-2.result) c.max.ensures c.first_in-2.ensures)
