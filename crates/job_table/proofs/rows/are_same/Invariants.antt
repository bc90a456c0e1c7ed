use Rattle.std.proofs.Common.{◌≡◌, length}
use Rattle.job_table.proofs.rows.are_same.Given as goal

abbrev pub invariant-entries : goal.invariant-entries
invariant-entries g l = (l.some ≡ l.others → l.fn.some ≡ l.fn.others) × (l.fn.some ≡ l.fn.others → l.some ≡ l.others)

abbrev pub decreases-entries : goal.decreases-entries
decreases-entries g l = length l.some
