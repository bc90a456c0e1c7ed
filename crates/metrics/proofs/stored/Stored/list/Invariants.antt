use Rattle.std.proofs.Common.{◌≡◌, map, take}
use Rattle.metrics.specs.Stored.{long_of}
use Rattle.metrics.proofs.stored.Stored.list.Given as goal

abbrev pub invariant-short : goal.invariant-short
invariant-short g l = l.users.items ≡ map long_of (take l.user-index l.user-items)
