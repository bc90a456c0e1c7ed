use Rattle.std.proofs.Common.{◌≡◌, take}
use Rattle.metrics.specs.Days.{from_day}
use Rattle.metrics.proofs.days.from_day.Given as goal

abbrev pub invariant-falls : goal.invariant-falls
invariant-falls l = l.sum ≡ from_day l.day (take l.at-index l.falls)
