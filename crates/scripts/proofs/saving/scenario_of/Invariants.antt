use Rattle.std.proofs.Common.{◌≡◌, drop}
use Rattle.scenarios.specs.ScenarioList.{named}
use Rattle.scripts.proofs.saving.scenario_of.Given as goal

abbrev pub invariant-loop-place : goal.invariant-loop-place
invariant-loop-place g l = named l.name l.list.scenarios ≡ named l.name (drop l.place l.list.scenarios)
