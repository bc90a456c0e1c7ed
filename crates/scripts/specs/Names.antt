-- The fault of a conversation by its name.
use Rattle.std.specs.Prelude.{ℕ, List, codes}
use Rattle.scripts.specs.declared.live.LiveFault.{LiveFault}
use Rattle.scripts.specs.declared.live.LiveFault.TheVariants as faults

abbrev pub live_fault_name : LiveFault → List ℕ
live_fault_name faults.Read = codes "Read"
live_fault_name faults.Write = codes "Write"
live_fault_name faults.Memory = codes "Memory"
