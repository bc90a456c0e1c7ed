-- The fault of the program where its log is refused or cannot be opened.
use Rattle.swf_text.specs.declared.fault.SwfFault.{SwfFault}
use Rattle.swf_text.specs.declared.fault.FaultKind.{FaultKind}
use Rattle.swf_text.specs.declared.fault.FaultKind.TheVariants as kinds
use Rattle.commands.specs.declared.opening_fault.OpenTextFault.{OpenTextFault}
use Rattle.commands.specs.declared.opening_fault.OpenTextFault.TheVariants as openings
use Rattle.scripts.specs.declared.live.LiveFault.{LiveFault}
use Rattle.scripts.specs.declared.live.LiveFault.TheVariants as live
use Rattle.easybook.specs.declared.fault.ProgramFault.{ProgramFault}
use Rattle.easybook.specs.declared.fault.ProgramFault.TheVariants as faults

abbrev pub fault_of_kind : SwfFault → FaultKind → ProgramFault
fault_of_kind fault kinds.Memory = faults.Memory
fault_of_kind fault kind = faults.Log fault

-- the log's fault, unless memory ran out
abbrev pub fault_of : SwfFault → ProgramFault
fault_of fault = fault_of_kind fault fault.kind

-- why the log was not opened
abbrev pub fault_of_opening : OpenTextFault → ProgramFault
fault_of_opening openings.NoMachine = faults.NoMachine
fault_of_opening openings.BadMachine = faults.BadMachine
fault_of_opening openings.Memory = faults.Memory

-- why a conversation ended before its input did
abbrev pub fault_of_talk : LiveFault → ProgramFault
fault_of_talk live.Read = faults.Read
fault_of_talk live.Write = faults.Write
fault_of_talk live.Memory = faults.Memory
