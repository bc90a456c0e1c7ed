-- The names of faults, and the texts in which they are written: the name of a variant is its own spelling.
use Rattle.std.specs.Prelude.{ℕ, List, ◌++◌, codes}
use Rattle.std.specs.Fmt.{decimal as decimal_text}
use Rattle.commands.specs.declared.opening_fault.OpenTextFault.{OpenTextFault}
use Rattle.commands.specs.declared.opening_fault.OpenTextFault.TheVariants as openings
use Rattle.commands.specs.declared.fault.CommandFault.{CommandFault}
use Rattle.commands.specs.declared.fault.CommandFault.TheVariants as faults

-- why a log is not opened
abbrev pub open_fault_name : OpenTextFault → List ℕ
open_fault_name openings.NoMachine = codes "NoMachine"
open_fault_name openings.BadMachine = codes "BadMachine"
open_fault_name openings.Memory = codes "Memory"

-- why a line is no command
abbrev pub command_fault_name : CommandFault → List ℕ
command_fault_name faults.TooLong = codes "TooLong"
command_fault_name faults.Unknown = codes "Unknown"
command_fault_name faults.Words = codes "Words"
command_fault_name (faults.BadWord place) = codes "BadWord"
command_fault_name faults.Memory = codes "Memory"

-- the name, and behind `BadWord` the place
abbrev pub command_fault_text : CommandFault → List ℕ
command_fault_text (faults.BadWord place) = codes "BadWord " ++ decimal_text place
command_fault_text fault = command_fault_name fault
