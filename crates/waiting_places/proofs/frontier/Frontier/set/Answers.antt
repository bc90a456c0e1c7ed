use Rattle.std.proofs.Common.{rules, arith}
use Rattle.waiting_places.proofs.Below.{one_more, within}
use Rattle.waiting_places.proofs.frontier.Frontier.set.Goals as goal

pub loop-place-preserved : goal.loop-place-preserved
loop-place-preserved g c = one_more g.T.Waits.size g.T.Waits.estimate c.loop-place.self c.add_place.new.self c.args.places.now c.loop-place.place-index c.loop-place.invariant c.add_place.ensures.kept c.place-item.result (search rules) c.place-item.is c.add_place.ensures.met

pub returns : goal.returns
returns g c p x is =
    let there = within g.T.Waits.size g.T.Waits.estimate c.args.places.now p x is in
    c.loop-place.invariant p x (omega (arith, there)) is
