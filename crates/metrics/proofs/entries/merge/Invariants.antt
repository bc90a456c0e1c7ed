use Rattle.std.proofs.Common.{◌+◌, ◌-◌, ◌≤◌, Some, length}
use Rattle.metrics.proofs.Merges.{IsMergedTo}
use Rattle.metrics.proofs.entries.merge.Given as goal

abbrev pub decreases-both : goal.decreases-both
decreases-both g l = (length l.left - l.i) + (length l.right - l.j)

abbrev pub invariant-both : goal.invariant-both
invariant-both g l = record {
  left : l.i ≤ length l.left;
  right : l.j ≤ length l.right;
  merged : IsMergedTo g.K.Ord.cmp (λ a b c. goal.F-post g l.plus a b (Some c)) l.left l.right l.i l.j l.entries.items;
}
