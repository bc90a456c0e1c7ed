use Rattle.std.proofs.Common.{◌≡◌, take, All}
use Rattle.metrics.specs.Placed.{IsPlaced}
use Rattle.metrics.specs.Totals.{totals}
use Rattle.metrics.proofs.totals.Totals.of_jobs.Given as goal

abbrev pub invariant-loop-each : goal.invariant-loop-each
invariant-loop-each l = record {
  each : All IsPlaced (take l.each-index l.placed);
  sums : l.sums ≡ totals (take l.each-index l.placed);
}
