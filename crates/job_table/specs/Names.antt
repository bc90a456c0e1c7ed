-- The names of faults: that of a variant is its own spelling.
use Rattle.std.specs.Prelude.{ℕ, List, codes}
use Rattle.job_table.specs.declared.fault.EditFault.{EditFault}
use Rattle.job_table.specs.declared.fault.EditFault.TheVariants as faults

-- why an edit is refused
abbrev pub edit_fault_name : EditFault → List ℕ
edit_fault_name faults.NoSuchJob = codes "NoSuchJob"
edit_fault_name faults.DuplicateJob = codes "DuplicateJob"
edit_fault_name faults.BadField = codes "BadField"
edit_fault_name faults.BadValue = codes "BadValue"
edit_fault_name faults.TableFull = codes "TableFull"
edit_fault_name faults.Memory = codes "Memory"
