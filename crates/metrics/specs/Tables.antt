-- The tables of some jobs on a machine.
use Rattle.std.specs.Prelude.{ℕ, ℤ, ◌-◌, ◌*◌, ◌/◌, ◌==◌, List, map, unwrap_or, if◌then◌else◌}
use Rattle.metrics.specs.declared.users.UserSums.{UserSums}
use Rattle.metrics.specs.declared.totals.Totals.{Totals}
use Rattle.metrics.specs.declared.rows.UserRow.{UserRow}
use Rattle.metrics.specs.declared.rows.DayRow.{DayRow}
use Rattle.scenarios.specs.declared.skips.Skips.{Skips}
use Rattle.metrics.specs.declared.rows.Overall.{Overall}
use Rattle.metrics.specs.Part.{PartSums}

-- the quotient cut down, 0 where the divisor is 0
abbrev pub ratio : ℕ → ℕ → ℕ
ratio n d = if d == 0 then 0 else n / d

-- the part of a machine's processor-seconds that is taken, in 100,000ths
abbrev pub utilization : ℕ → ℕ → ℕ → ℕ
utilization busy procs seconds = ratio (busy * 100000) (procs * seconds)

-- the seconds from the least submission to the greatest end
abbrev pub span_of : Totals → ℕ
span_of t = unwrap_or t.greatest_end 0 - unwrap_or t.least_submit 0

-- the numbers over all jobs
abbrev pub overall_of : ℕ → Skips → Totals → Overall
overall_of procs skips t = record {
  jobs = t.count;
  killed = t.killed;
  skips = skips;
  wait = ratio t.wait t.count;
  greatest_wait = t.greatest_wait;
  length = ratio t.length t.count;
  slowdown = ratio t.slowdown t.count;
  busy = t.busy;
  span = span_of t;
  utilization = utilization t.busy procs (span_of t);
}

-- the row of a user
abbrev pub user_row_of : ℤ × UserSums → UserRow
user_row_of e = record { user = e.0; jobs = e.1.count; wait = ratio e.1.wait e.1.count; slowdown = ratio e.1.slowdown e.1.count; busy = e.1.busy }

-- the row of a day
abbrev pub day_row_of : ℕ → ℕ × ℕ → DayRow
day_row_of procs e = record { day = e.0; busy = e.1; utilization = utilization e.1 procs 86400 }

-- What callers see of tables: the numbers over all jobs, a row a user by rising user, a row a day by rising day.
pub record TableRows : Type 0 where
  pub overall : Overall
  pub users : List UserRow
  pub days : List DayRow

-- the tables of a part, on a machine
abbrev pub tables_of : ℕ → Skips → PartSums → TableRows
tables_of procs skips v = record { overall = overall_of procs skips v.totals; users = map user_row_of v.users; days = map (day_row_of procs) v.days }
