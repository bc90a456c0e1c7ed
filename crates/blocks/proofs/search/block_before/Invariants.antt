use Rattle.std.proofs.Common.{◌≤◌, ◌-◌, length}
use Rattle.blocks.specs.Rows.{stands}
use Rattle.blocks.proofs.Places.{blocks_before}
use Rattle.blocks.proofs.search.block_before.Given as goal

abbrev pub invariant-halves : goal.invariant-halves
invariant-halves g l =
    let place = blocks_before (stands g.T.Ranked.major g.T.Ranked.minor l.major l.minor) l.blocks in
    record {
      low : l.low ≤ place;
      high : place ≤ l.high;
      within : l.high ≤ length l.blocks;
    }

abbrev pub decreases-halves : goal.decreases-halves
decreases-halves g l = l.high - l.low
