-- The names of faults: that of a variant is its own spelling.
use Rattle.std.specs.Prelude.{ℕ, List, codes}
use Rattle.event_loop.specs.declared.fault.EngineFault.{EngineFault}
use Rattle.event_loop.specs.declared.fault.EngineFault.TheVariants as faults

-- why an engine does not go on
abbrev pub engine_fault_name : EngineFault → List ℕ
engine_fault_name faults.Failed = codes "Failed"
engine_fault_name faults.Memory = codes "Memory"
