-- The fault of closing by its name.
use Rattle.std.specs.Prelude.{ℕ, List, codes}
use Rattle.workers.specs.declared.close_fault.CloseFault.{CloseFault}
use Rattle.workers.specs.declared.close_fault.CloseFault.TheVariants as faults

abbrev pub close_fault_name : CloseFault → List ℕ
close_fault_name faults.StillOut = codes "StillOut"
close_fault_name faults.Mismatch = codes "Mismatch"
