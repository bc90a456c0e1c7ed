-- The names of faults: that of a variant is its own spelling.
use Rattle.std.specs.Prelude.{ℕ, List, codes}
use Rattle.checkpoints.specs.declared.fault.RunFault.{RunFault}
use Rattle.checkpoints.specs.declared.fault.RunFault.TheVariants as faults

-- why there is no run
abbrev pub run_fault_name : RunFault → List ℕ
run_fault_name faults.BadSpacing = codes "BadSpacing"
run_fault_name faults.Memory = codes "Memory"
