use Rattle.std.proofs.Common.{◌≡◌, ◌≤◌, ◌^◌, take}
use Rattle.metrics.specs.Days.{end_of}
use Rattle.metrics.proofs.days.end_of.Given as goal

abbrev pub invariant-falls : goal.invariant-falls
invariant-falls l = record { value : l.end ≡ end_of (take l.day-index l.falls); near : l.end ≤ 2 ^ 40 }
