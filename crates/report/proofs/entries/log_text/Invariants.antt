use Rattle.std.proofs.Common.{◌≡◌, ◌++◌, length}
use Rattle.std.specs.List.{flat_map}
use Rattle.report.specs.Entries.{entry_line, log_text}
use Rattle.report.proofs.entries.log_text.Given as goal

abbrev pub invariant-entries : goal.invariant-entries
invariant-entries g l = l.text.items ++ flat_map (entry_line l.fn.scenario) l.coming ≡ log_text l.fn.name l.fn.version l.table l.fn.scenario

abbrev pub decreases-entries : goal.decreases-entries
decreases-entries g l = length l.coming
