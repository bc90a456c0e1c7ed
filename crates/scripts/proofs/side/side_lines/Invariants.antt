use Rattle.std.proofs.Common.{◌≤◌, length, map, take, vec_len}
use Rattle.std.specs.Prelude.{vec_capacity}
use Rattle.report.specs.Side.{side_line}
use Rattle.scripts.specs.Analysts.{AreBeside}
use Rattle.scripts.proofs.side.side_lines.Given as goal

abbrev pub invariant-loop-place : goal.invariant-loop-place
invariant-loop-place g l = record {
  lines : AreBeside g.S.Analyst.rules g.row.A.Denot l.fn.analyst (take l.place l.list.scenarios) (map side_line l.lines.items) l.analyst;
  count : vec_len l.lines ≤ l.place;
  capacity : length l.list.scenarios ≤ vec_capacity l.lines;
}
