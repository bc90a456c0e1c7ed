use Rattle.std.proofs.Common.{◌≡◌, ◌++◌, drop}
use Rattle.std.specs.List.{flat_map}
use Rattle.report.specs.Days.{day_line, days_text}
use Rattle.report.proofs.days.days_text.Given as goal

abbrev pub invariant-lines : goal.invariant-lines
invariant-lines g l = l.text.items ++ flat_map day_line (drop l.row-index l.row-items) ≡ days_text l.fn.name l.fn.version l.fn.run.tables.days
