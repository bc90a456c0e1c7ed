use Rattle.std.proofs.Common.{arith}
use Rattle.std.specs.Prelude.{nat_le}
use Rattle.metrics.proofs.Falls.{first_day_falls, rest_fits, second_falls}
use Rattle.metrics.proofs.days.add_second.Goals as goal

pub add_fall-requires-then-day-gt0-clause-fits : goal.add_fall-requires-then-day-gt0-clause-fits
add_fall-requires-then-day-gt0-clause-fits g c = rest_fits _ _ c.args.second c.args.size (c.in_ok-add_fall.ensures.sums (nat_le 0)) c.requires.fits

pub returns-in_ok-add_fall-2-clause-sums : goal.returns-in_ok-add_fall-2-clause-sums
returns-in_ok-add_fall-2-clause-sums g c = λ d.
    let a = c.in_ok-add_fall.ensures.sums (nat_le d) in
    let b = c.in_ok-add_fall-2.ensures.sums (nat_le d) in
    let s = second_falls d c.args.second c.args.size c.if-day-gt0.true in omega (arith, a, b, s)

pub returns-else-day-gt0-clause-sums : goal.returns-else-day-gt0-clause-sums
returns-else-day-gt0-clause-sums g c = λ d.
    let a = c.in_ok-add_fall.ensures.sums (nat_le d) in
    let z = c.if-day-gt0.false in
    let s = first_day_falls d c.args.second c.args.size (omega (arith, z)) in omega (arith, a, s)
