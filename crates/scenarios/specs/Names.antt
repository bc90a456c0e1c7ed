-- The names of faults, and of the reasons to skip an entry: that of a variant is its own spelling.
use Rattle.std.specs.Prelude.{ℕ, List, codes}
use Rattle.scenarios.specs.declared.skip.Skip.{Skip}
use Rattle.scenarios.specs.declared.skip.Skip.TheVariants as skips
use Rattle.scenarios.specs.declared.list_fault.AddFault.{AddFault}
use Rattle.scenarios.specs.declared.list_fault.AddFault.TheVariants as faults

-- why an entry is not simulated
abbrev pub skip_name : Skip → List ℕ
skip_name skips.NoSize = codes "NoSize"
skip_name skips.NoRun = codes "NoRun"
skip_name skips.TooLarge = codes "TooLarge"
skip_name skips.TooLong = codes "TooLong"

-- why a scenario was not added
abbrev pub add_fault_name : AddFault → List ℕ
add_fault_name faults.BadName = codes "BadName"
add_fault_name faults.NameTaken = codes "NameTaken"
add_fault_name faults.TooMany = codes "TooMany"
add_fault_name faults.Memory = codes "Memory"

-- no scenario has the name
abbrev pub no_such_scenario_name : List ℕ
no_such_scenario_name = codes "NoSuchScenario"
