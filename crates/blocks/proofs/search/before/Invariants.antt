use Rattle.std.proofs.Common.{◌≤◌, ◌-◌, length}
use Rattle.blocks.specs.Rows.{place_in}
use Rattle.blocks.proofs.search.before.Given as goal

abbrev pub invariant-halves : goal.invariant-halves
invariant-halves g l = record {
  low : l.low ≤ place_in g.T.Ranked.major g.T.Ranked.minor l.major l.minor l.items;
  high : place_in g.T.Ranked.major g.T.Ranked.minor l.major l.minor l.items ≤ l.high;
  within : l.high ≤ length l.items;
}

abbrev pub decreases-halves : goal.decreases-halves
decreases-halves g l = l.high - l.low
