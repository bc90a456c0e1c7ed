-- What callers see of a run, and what is true of each.
use Rattle.std.specs.Prelude.{List}
use Rattle.swf_text.specs.Entry.{LogEntry}
use Rattle.scenarios.specs.Scenario.{ScenarioView}
use Rattle.scenarios.specs.Plan.{plan_of}
use Rattle.scenarios.specs.SoundPlan.{IsPlan}
use Rattle.metrics.specs.Tables.{TableRows}
use Rattle.checkpoints.specs.Segment.{SegmentView}
use Rattle.checkpoints.specs.Cut.{IsCut}
use Rattle.checkpoints.specs.Sums.{IsTablesOf}

-- The entries of a table in its order, the scenario, the segments of their simulation in order, and its tables.
pub record RunView : Type 0 where
  pub log : List LogEntry
  pub scenario : ScenarioView
  pub segments : List SegmentView
  pub tables : TableRows

-- a run is that of its own table and scenario: they make a plan, its segments are cut from the plan's simulation, and its
-- tables are theirs
pub record IsRun (run : RunView) : Type 0 where
  pub plan : IsPlan (plan_of run.log run.scenario)
  pub cut : IsCut (plan_of run.log run.scenario) run.segments
  pub tables : IsTablesOf run.log run.scenario run.tables
