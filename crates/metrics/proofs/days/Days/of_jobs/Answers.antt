use Rattle.std.proofs.Common.{arith}
use Rattle.scenarios.specs.Placed.{real_end}
use Rattle.metrics.proofs.Falls.{falls_more, falls_of_none, second_fits}
use Rattle.metrics.proofs.Tallies.{placed_at}
use Rattle.metrics.proofs.days.Days.of_jobs.Goals as goal

pub loop-each-init : goal.loop-each-init
loop-each-init g c = falls_of_none _ _ c.new-starts.ensures.items c.new-ends.ensures.items

pub add_second-requires-clause-fits : goal.add_second-requires-clause-fits
add_second-requires-clause-fits g c =
    let p = placed_at c.args.placed.now c.loop-each.each-index c.each-item.result c.requires c.loop-each-test.true c.each-item.is in
    second_fits (λ p. p.start) c.args.placed.now c.loop-each.each-index c.size.result c.loop-each.starts.items c.requires c.loop-each-test.true (c.loop-each.invariant.at_starts 0) (omega (arith, p.fits_some, c.size.ensures.value))

pub add_second-requires-in-loop-each-clause-fits : goal.add_second-requires-in-loop-each-clause-fits
add_second-requires-in-loop-each-clause-fits g c =
    let p = placed_at c.args.placed.now c.loop-each.each-index c.each-item.result c.requires c.loop-each-test.true c.each-item.is in
    second_fits real_end c.args.placed.now c.loop-each.each-index c.size-in-loop-each.result c.loop-each.ends.items c.requires c.loop-each-test.true (c.loop-each.invariant.at_ends 0) (omega (arith, p.fits_some, c.size-in-loop-each.ensures.value))

pub loop-each-preserved : goal.loop-each-preserved
loop-each-preserved g c = falls_more c.args.placed.now c.loop-each.each-index c.each-item.result _ _ _ _ c.loop-each-test.true c.each-item.is c.loop-each.invariant c.in_ok-add_second.ensures.list (λ d. rw c.size.ensures.value at c.in_ok-add_second.ensures.sums d) c.in_ok-add_second-2.ensures.list (λ d. rw (c.size-in-loop-each.ensures.value, c.end.ensures.value) at c.in_ok-add_second-2.ensures.sums d)
