-- What a run keeps, beside the simulation of a log under a scenario from its first second on.
use Rattle.std.specs.Prelude.{◌≡◌, List}
use Rattle.std.specs.List.{filter_map}
use Rattle.swf_text.specs.Entry.{LogEntry}
use Rattle.scenarios.specs.Scenario.{ScenarioView}
use Rattle.scenarios.specs.Plan.{jobs_of, plan_of}
use Rattle.easy_rule.specs.Simulation.{sim}
use Rattle.checkpoints.specs.declared.row.Row.{Row}
use Rattle.checkpoints.specs.Cut.{all_starts}
use Rattle.checkpoints.specs.RunView.{RunView, IsRun}
use Rattle.checkpoints.specs.Schedule.{row_of, rows_of}
use Rattle.checkpoints.specs.Sums.{IsTablesOf}

-- the schedule that a run's own segments give
abbrev pub schedule_of : RunView → List Row
schedule_of run = filter_map (row_of (all_starts run.segments)) (jobs_of run.log run.scenario)

-- the starts that the run keeps, in order, are all of the simulation, second by second; so its schedule is the simulation's,
-- and its tables are the sums over it
pub record IsSimulated (log : List LogEntry) (under : ScenarioView) (run : RunView) : Type 0 where
  pub starts : all_starts run.segments ≡ sim (plan_of log under)
  pub schedule : schedule_of run ≡ rows_of (plan_of log under)
  pub tables : IsTablesOf log under run.tables

-- however a run was made and cut, it is the simulation of its own log under its own scenario
abbrev pub EachRunIsSimulated : Type 0
EachRunIsSimulated = (run : RunView) → IsRun run → IsSimulated run.log run.scenario run
