use Rattle.std.proofs.Common.{◌≡◌, ◌-◌, map}
use Rattle.metrics.specs.Days.{days_below, from_day}
use Rattle.metrics.specs.Tables.{day_row_of}
use Rattle.metrics.proofs.days.Days.rows.Given as goal

abbrev pub invariant-loop-day : goal.invariant-loop-day
invariant-loop-day g l = record {
  rows : l.rows.items ≡ map (day_row_of l.fn.procs) (days_below (λ d. from_day d l.self.ends.items - from_day d l.self.starts.items) l.day);
  starts : l.starts ≡ from_day l.day l.self.starts.items;
  ends : l.ends ≡ from_day l.day l.self.ends.items;
}
