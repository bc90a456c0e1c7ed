-- The reports on what is published for a scenario.
use Rattle.std.specs.Prelude.{ℕ, List}
use Rattle.scenarios.specs.Plan.{plan_of}
use Rattle.checkpoints.specs.RunView.{RunView}
use Rattle.report.specs.Schedule.{schedule_text}
use Rattle.report.specs.Table.{table_text}
use Rattle.report.specs.Users.{users_text}
use Rattle.report.specs.Days.{days_text}
use Rattle.scripts.specs.declared.view_report.Report.{Report}
use Rattle.scripts.specs.declared.view_report.Report.TheVariants as report

-- ---- of a run

abbrev pub report_text : Report → List ℕ → ℕ → RunView → List ℕ
report_text report.Schedule name version run = schedule_text name version (plan_of run.log run.scenario)
report_text report.Table name version run = table_text name version run.tables.overall
report_text report.Users name version run = users_text name version run.tables.users
report_text report.Days name version run = days_text name version run.tables.days
