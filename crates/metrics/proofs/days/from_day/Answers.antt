use Rattle.std.proofs.Common.{arith}
use Rattle.std.proofs.lemmas.Bool.{le-leb}
use Rattle.metrics.proofs.Falls.{more_fits}
use Rattle.metrics.proofs.days.from_day.Goals as goal

pub overflow_add-sum : goal.overflow_add-sum
overflow_add-sum c = let m = more_fits c.args.day c.args.falls.now c.falls.at-index (0, 0) c.falls-test.true (le-leb _ _ c.if-day-at.true) in omega (arith, m, c.falls.invariant, c.requires)
