use Rattle.report.specs.Schedule.{row_line}
use Rattle.report.proofs.Joins.{first_line}
use Rattle.report.proofs.schedule.rows_text.Goals as goal

pub lines-preserved : goal.lines-preserved
lines-preserved g c = first_line row_line c.in-Some.row c.lines.rows c.next.new.self _ _ _ c.in-Some.ensures.steps c.lines.invariant c.in_ok-push_row.ensures
