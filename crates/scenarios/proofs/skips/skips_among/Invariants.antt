use Rattle.std.proofs.Common.{length}
use Rattle.scenarios.proofs.Skipping.{Counted}
use Rattle.scenarios.proofs.skips.skips_among.Given as goal

abbrev pub invariant-entries : goal.invariant-entries
invariant-entries g l = Counted l.skips l.entries l.fn.entries l.scenario

abbrev pub decreases-entries : goal.decreases-entries
decreases-entries g l = length l.entries
