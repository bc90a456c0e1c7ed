use Rattle.std.proofs.Common.{◌≡◌, take}
use Rattle.job_table.proofs.rows.copy_of.Given as goal

abbrev pub invariant-loop-entry : goal.invariant-loop-entry
invariant-loop-entry g l = l.copy.items ≡ take l.entry-index l.rows
