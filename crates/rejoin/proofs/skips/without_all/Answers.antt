use Rattle.std.proofs.Common.{ap, arith}
use Rattle.scenarios.specs.declared.skip.Skip.TheVariants as reasons
use Rattle.rejoin.specs.Skips.{times}
use Rattle.rejoin.proofs.SkipCounts.{without-times, first-times}
use Rattle.rejoin.proofs.skips.without_all.Goals as goal

pub take-requires-clause-size : goal.take-requires-clause-size
take-requires-clause-size g c =
    let first = first-times reasons.NoSize c.args.table.now c.args.scenario.now c.in-Some.number.now c.numbers.number-iterator c.next.new.self c.in-Some.ensures.steps in
    let this = ap (times reasons.NoSize) c.skip_of.ensures in
    omega (arith, first, this, c.numbers.invariant reasons.NoSize, c.requires reasons.NoSize)

pub take-requires-clause-run : goal.take-requires-clause-run
take-requires-clause-run g c =
    let first = first-times reasons.NoRun c.args.table.now c.args.scenario.now c.in-Some.number.now c.numbers.number-iterator c.next.new.self c.in-Some.ensures.steps in
    let this = ap (times reasons.NoRun) c.skip_of.ensures in
    omega (arith, first, this, c.numbers.invariant reasons.NoRun, c.requires reasons.NoRun)

pub take-requires-clause-large : goal.take-requires-clause-large
take-requires-clause-large g c =
    let first = first-times reasons.TooLarge c.args.table.now c.args.scenario.now c.in-Some.number.now c.numbers.number-iterator c.next.new.self c.in-Some.ensures.steps in
    let this = ap (times reasons.TooLarge) c.skip_of.ensures in
    omega (arith, first, this, c.numbers.invariant reasons.TooLarge, c.requires reasons.TooLarge)

pub take-requires-clause-long : goal.take-requires-clause-long
take-requires-clause-long g c =
    let first = first-times reasons.TooLong c.args.table.now c.args.scenario.now c.in-Some.number.now c.numbers.number-iterator c.next.new.self c.in-Some.ensures.steps in
    let this = ap (times reasons.TooLong) c.skip_of.ensures in
    omega (arith, first, this, c.numbers.invariant reasons.TooLong, c.requires reasons.TooLong)

pub numbers-preserved : goal.numbers-preserved
numbers-preserved g c = λ k.
    let first = first-times k c.args.table.now c.args.scenario.now c.in-Some.number.now c.numbers.number-iterator c.next.new.self c.in-Some.ensures.steps in
    let this = ap (times k) c.skip_of.ensures in
    let step = without-times c.numbers.counts c.take.new.skips c.skip_of.result c.take.ensures.size c.take.ensures.run c.take.ensures.large c.take.ensures.long k in
    omega (arith, first, this, step, c.numbers.invariant k)
