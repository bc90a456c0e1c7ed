use Rattle.std.proofs.Common.{◌≡◌, ◌*◌, ◌≤◌, length, take}
use Rattle.std.specs.List.{flat_map}
use Rattle.report.specs.Schedule.{row_line}
use Rattle.report.proofs.page.put_rows.Given as goal

abbrev pub invariant-loop-row : goal.invariant-loop-row
invariant-loop-row l = record {
  text : l.lines.items ≡ flat_map row_line (take l.row-index l.rows);
  short : length l.lines.items ≤ 111 * l.row-index;
}
