-- The report on a schedule.
use Rattle.std.specs.Prelude.{◌≡◌, ℕ, List, ◌++◌, length, codes}
use Rattle.std.specs.List.{flat_map}
use Rattle.std.specs.Fmt.{decimal}
use Rattle.scenarios.specs.Plan.{Plan}
use Rattle.checkpoints.specs.declared.row.Row.{Row}
use Rattle.checkpoints.specs.Schedule.{rows_of}
use Rattle.report.specs.Pieces.{right, cell, verdict}
use Rattle.report.specs.Heading.{heading}

-- a job's number, submit second, start, end and size
abbrev pub row_numbers : Row → List ℕ
row_numbers row = right 8 (decimal row.number) ++ cell 10 row.submit ++ cell 10 row.start ++ cell 10 row.end ++ cell 8 row.size

-- the numbers of a job, and whether it was killed
abbrev pub row_line : Row → List ℕ
row_line row = row_numbers row ++ verdict row.killed

-- these rows: how many there are, and a line for each
abbrev pub rows_text : List ℕ → ℕ → List Row → List ℕ
rows_text name version rows = heading (codes "schedule") name version (codes "jobs") (length rows) ++ flat_map row_line rows

-- the schedule of a plan: a line for each of its jobs, in the order of the log, with the start that the simulation of
-- the plan, second by second, gives it
abbrev pub schedule_text : List ℕ → ℕ → Plan → List ℕ
schedule_text name version plan = rows_text name version (rows_of plan)

-- the heading of a schedule's text tells how many jobs the plan has, and behind it stand as many lines, one for each row
pub record HasALineForEachJob (name : List ℕ) (version : ℕ) (plan : Plan) (text : List ℕ) : Type 0 where
  pub count : length (rows_of plan) ≡ length plan.jobs
  pub lines : text ≡ heading (codes "schedule") name version (codes "jobs") (length plan.jobs) ++ flat_map row_line (rows_of plan)
