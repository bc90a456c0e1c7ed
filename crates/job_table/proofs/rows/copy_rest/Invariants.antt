use Rattle.std.proofs.Common.{◌≡◌, ◌++◌, length}
use Rattle.job_table.proofs.rows.copy_rest.Given as goal

abbrev pub invariant-entries : goal.invariant-entries
invariant-entries g l = l.copy.items ++ l.rest ≡ l.fn.rest

abbrev pub decreases-entries : goal.decreases-entries
decreases-entries g l = length l.rest
