-- The fault of a line as a fault of its log.
use Rattle.swf_text.specs.declared.line.LineFault.{LineFault}
use Rattle.swf_text.specs.declared.line.LineFault.TheVariants as lines
use Rattle.swf_text.specs.declared.fault.FaultKind.{FaultKind}
use Rattle.swf_text.specs.declared.fault.FaultKind.TheVariants as kinds

-- the kind under which a log's reading tells the fault of one line
abbrev pub kind_of : LineFault → FaultKind
kind_of lines.LineTooLong = kinds.LineTooLong
kind_of lines.NotAscii = kinds.NotAscii
kind_of lines.FieldCount = kinds.FieldCount
kind_of (lines.BadNumber place) = kinds.BadNumber place
