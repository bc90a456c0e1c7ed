use Rattle.std.proofs.Common.{ap, arith}
use Rattle.scenarios.specs.declared.skip.Skip.TheVariants as reasons
use Rattle.rejoin.specs.Skips.{times}
use Rattle.rejoin.proofs.SkipCounts.{with-times, first-times}
use Rattle.rejoin.proofs.skips.with_all.Goals as goal

pub add-requires-clause-size : goal.add-requires-clause-size
add-requires-clause-size g c = omega (arith, c.numbers.invariant reasons.NoSize, c.requires reasons.NoSize)

pub add-requires-clause-run : goal.add-requires-clause-run
add-requires-clause-run g c = omega (arith, c.numbers.invariant reasons.NoRun, c.requires reasons.NoRun)

pub add-requires-clause-large : goal.add-requires-clause-large
add-requires-clause-large g c = omega (arith, c.numbers.invariant reasons.TooLarge, c.requires reasons.TooLarge)

pub add-requires-clause-long : goal.add-requires-clause-long
add-requires-clause-long g c = omega (arith, c.numbers.invariant reasons.TooLong, c.requires reasons.TooLong)

pub numbers-preserved : goal.numbers-preserved
numbers-preserved g c = λ k.
    let first = first-times k c.args.table.now c.args.scenario.now c.in-Some.number.now c.numbers.number-iterator c.next.new.self c.in-Some.ensures.steps in
    let this = ap (times k) c.skip_of.ensures in
    let step = with-times c.numbers.counts c.add.new.skips c.skip_of.result c.add.ensures.size c.add.ensures.run c.add.ensures.large c.add.ensures.long k in
    omega (arith, first, this, step, c.numbers.invariant k)
