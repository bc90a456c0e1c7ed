use Rattle.std.proofs.Common.{◌≡◌, map, take, length}
use Rattle.metrics.specs.Stored.{long_of}
use Rattle.metrics.proofs.stored.short_front.Given as goal

abbrev pub invariant-entries : goal.invariant-entries
invariant-entries g l = record {
  front : map long_of l.short.items ≡ take l.user-index l.entries;
  count : length l.short.items ≡ l.user-index;
}
