use Rattle.std.proofs.Common.{arith}
use Rattle.metrics.proofs.Falls.{end_next}
use Rattle.metrics.proofs.days.end_of.Goals.{then-end-day, else-end-day}
use Rattle.metrics.proofs.days.end_of.Goals as goal

pub falls-preserved : goal.falls-preserved
falls-preserved c =
    let n = c.requires c.falls.day-index (0, 0) c.falls-test.true in
    let e = end_next c.args.falls.now c.falls.day-index (0, 0) c.falls-test.true in
    elim c.if-end-day.branch [
      | then-end-day w ↦ record { value = omega (arith, e, w.end-is, w.if-end-day.true, c.falls.invariant.value); near = omega (arith, n, w.end-is) }
      | else-end-day w ↦ record { value = omega (arith, e, w.end-is, w.if-end-day.false, c.falls.invariant.value); near = omega (arith, w.end-is, c.falls.invariant.near) }
    ]
