use Rattle.std.proofs.Common.{◌≡◌, ◌+◌}
use Rattle.scenarios.specs.declared.skip.Skip.{Skip}
use Rattle.rejoin.specs.Skips.{count_in, skipped_at}
use Rattle.rejoin.proofs.skips.with_all.Given as goal

abbrev pub invariant-numbers : goal.invariant-numbers
invariant-numbers g l = (k : Skip) → count_in l.counts k + skipped_at k l.table l.scenario l.number-iterator ≡ count_in l.fn.skips k + skipped_at k l.table l.scenario l.numbers.keys
