-- The report on days.
use Rattle.std.specs.Prelude.{ℕ, List, ◌++◌, length, codes}
use Rattle.std.specs.List.{flat_map}
use Rattle.std.specs.Fmt.{decimal}
use Rattle.metrics.specs.declared.rows.DayRow.{DayRow}
use Rattle.report.specs.Pieces.{right, cell, percent}
use Rattle.report.specs.Heading.{heading}

-- the day, processor-seconds, and the utilization
abbrev pub day_line : DayRow → List ℕ
day_line row = right 8 (decimal row.day) ++ cell 16 row.busy ++ codes " " ++ percent 3 row.utilization ++ codes "\n"

-- a line for each day
abbrev pub days_text : List ℕ → ℕ → List DayRow → List ℕ
days_text name version rows = heading (codes "days") name version (codes "count") (length rows) ++ flat_map day_line rows
