use Rattle.std.proofs.Common.{◌≡◌, ◌++◌, length}
use Rattle.std.specs.List.{flat_map}
use Rattle.report.specs.Schedule.{row_line, rows_text}
use Rattle.report.proofs.schedule.rows_text.Given as goal

abbrev pub invariant-lines : goal.invariant-lines
invariant-lines g l = l.text.items ++ flat_map row_line l.rows ≡ rows_text l.fn.name l.fn.version l.fn.rows

abbrev pub decreases-lines : goal.decreases-lines
decreases-lines g l = length l.rows
