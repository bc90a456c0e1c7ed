use Rattle.std.proofs.Common.{◌≡◌, length}
use Rattle.std.specs.List.{filter_map}
use Rattle.checkpoints.specs.Starts.{row_by}
use Rattle.checkpoints.proofs.rows.next_row.Given as goal

abbrev pub invariant-jobs : goal.invariant-jobs
invariant-jobs g l = filter_map (row_by l.starts) l.jobs ≡ filter_map (row_by l.starts) l.fn.jobs

abbrev pub decreases-jobs : goal.decreases-jobs
decreases-jobs g l = length l.jobs
