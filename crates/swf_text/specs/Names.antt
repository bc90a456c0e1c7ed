-- The names of faults, and the texts in which they are written: the name of a variant is its own spelling.
use Rattle.std.specs.Prelude.{ℕ, List, ◌++◌, codes}
use Rattle.std.specs.Fmt.{decimal as decimal_text}
use Rattle.swf_text.specs.Fault.{kind_of}
use Rattle.swf_text.specs.declared.fault.FaultKind.{FaultKind}
use Rattle.swf_text.specs.declared.fault.FaultKind.TheVariants as kinds
use Rattle.swf_text.specs.declared.fault.SwfFault.{SwfFault}
use Rattle.swf_text.specs.declared.fault.EntryFault.{EntryFault}
use Rattle.swf_text.specs.declared.fault.EntryFault.TheVariants as entries
use Rattle.swf_text.specs.declared.fault.WriteFault.{WriteFault}
use Rattle.swf_text.specs.declared.fault.WriteFault.TheVariants as writes
use Rattle.swf_text.specs.declared.line.LineFault.{LineFault}

-- the name of a fault of a log
abbrev pub kind_name : FaultKind → List ℕ
kind_name kinds.LineTooLong = codes "LineTooLong"
kind_name kinds.NotAscii = codes "NotAscii"
kind_name kinds.FieldCount = codes "FieldCount"
kind_name (kinds.BadNumber field) = codes "BadNumber"
kind_name kinds.BadJobNumber = codes "BadJobNumber"
kind_name kinds.BadSubmit = codes "BadSubmit"
kind_name kinds.OrphanPartial = codes "OrphanPartial"
kind_name kinds.DuplicateJob = codes "DuplicateJob"
kind_name kinds.TooManyJobs = codes "TooManyJobs"
kind_name kinds.Memory = codes "Memory"

-- the name, and behind `BadNumber` the field
abbrev pub kind_text : FaultKind → List ℕ
kind_text (kinds.BadNumber field) = codes "BadNumber " ++ decimal_text field
kind_text kind = kind_name kind

-- the line, counted from 1, and what is wrong with it
abbrev pub fault_text : SwfFault → List ℕ
fault_text fault = codes "line " ++ (decimal_text fault.line ++ (codes ": " ++ kind_text fault.kind))

-- a fault of one line is written as that of its log
abbrev pub line_fault_text : LineFault → List ℕ
line_fault_text fault = kind_text (kind_of fault)

-- the name of a fault of the lines of an entry
abbrev pub entry_fault_name : EntryFault → List ℕ
entry_fault_name entries.BadJobNumber = codes "BadJobNumber"
entry_fault_name entries.BadSubmit = codes "BadSubmit"
entry_fault_name entries.BadStatus = codes "BadStatus"
entry_fault_name entries.BadPart = codes "BadPart"

-- the name of a fault of writing
abbrev pub write_fault_name : WriteFault → List ℕ
write_fault_name writes.Device = codes "Device"
