use Rattle.std.proofs.Common.{◌≤◌, ◌-◌, length}
use Rattle.report.proofs.batch.pages.Given as goal

abbrev pub invariant-loop-pages : goal.invariant-loop-pages
invariant-loop-pages g l = length l.pages.items ≤ l.count

abbrev pub decreases-loop-pages : goal.decreases-loop-pages
decreases-loop-pages g l = l.count - length l.pages.items
