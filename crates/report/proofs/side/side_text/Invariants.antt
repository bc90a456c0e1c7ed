use Rattle.std.proofs.Common.{◌≡◌, ◌++◌, drop}
use Rattle.std.specs.List.{flat_map}
use Rattle.report.specs.Side.{side_line, side_text}
use Rattle.report.proofs.side.side_text.Given as goal

abbrev pub invariant-lines : goal.invariant-lines
invariant-lines g l = l.text.items ++ flat_map side_line (drop l.line-index l.lines) ≡ side_text l.lines
