-- What callers see of a table under a scenario, and what is true of each.
use Rattle.std.specs.Prelude.{List}
use Rattle.swf_text.specs.Entry.{LogEntry}
use Rattle.job_table.specs.Table.{IsTable}
use Rattle.scenarios.specs.Scenario.{ScenarioView, IsScenario}
use Rattle.scenarios.specs.Plan.{Plan, plan_of}
use Rattle.scenarios.specs.SoundPlan.{IsPlan}

-- The entries of a table in its order, and the scenario.
pub record PlanView : Type 0 where
  pub log : List LogEntry
  pub scenario : ScenarioView

-- the plan of the log under the scenario
abbrev pub plan_in : PlanView → Plan
plan_in view = plan_of view.log view.scenario

-- the entries are those of a table, the scenario is within its limits, and together they make a plan
pub record IsPlanned (view : PlanView) : Type 0 where
  pub table : IsTable view.log
  pub scenario : IsScenario view.scenario
  pub plan : IsPlan (plan_in view)
