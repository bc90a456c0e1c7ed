-- A run has all starts of its plan's simulation, and so runs of one table and scenario are alike: a log has one such table.
use Rattle.std.proofs.Common.{◌≡◌, List, sym, ◌∙◌, ap, subst}
use Rattle.std.specs.List.{filter_map}
use Rattle.swf_text.specs.Entry.{LogEntry}
use Rattle.scenarios.specs.Scenario.{ScenarioView}
use Rattle.scenarios.specs.Plan.{jobs_of, plan_of}
use Rattle.easy_rule.specs.declared.start.Start.{Start}
use Rattle.easy_rule.specs.Simulation.{sim}
use Rattle.metrics.specs.Part.{PartSums}
use Rattle.metrics.specs.Tables.{TableRows, tables_of}
use Rattle.metrics.proofs.Lemmas.{one_part}
use Rattle.scenarios.specs.Skips.{skips_of}
use Rattle.checkpoints.specs.Sums.{all_placed, IsTablesOf}
use Rattle.checkpoints.specs.Schedule.{row_of, rows_of}
use Rattle.checkpoints.specs.Simulated.{EachRunIsSimulated}
use Rattle.checkpoints.specs.Alike.{RunsOfOneTableAreAlike}
use Rattle.checkpoints.proofs.Chains.{cut-outcome}

-- a run is the simulation of its own log under its own scenario
pub run-simulated : EachRunIsSimulated
run-simulated run r =
    let starts = cut-outcome (plan_of run.log run.scenario) run.segments r.plan r.cut in
    record { starts = starts; schedule = ap (λ (xs : List Start). filter_map (row_of xs) (jobs_of run.log run.scenario)) starts; tables = r.tables }

one-tables : (log : List LogEntry) (s : ScenarioView) (t u : TableRows) → IsTablesOf log s t → IsTablesOf log s u → t ≡ u
one-tables log s t u (v, pv, ev) (w, pw, ew) =
    ev ∙ ap (λ (x : PartSums). tables_of s.procs (skips_of log s) x) (one_part (all_placed (plan_of log s)) v w pv pw) ∙ sym ew

-- two runs of one table and scenario have the same starts in the same order, the same schedule and the same tables
pub runs-of-one-table-are-alike : RunsOfOneTableAreAlike
runs-of-one-table-are-alike a b ra rb log scenario =
    let plan : plan_of a.log a.scenario ≡ plan_of b.log b.scenario = ap (λ (l : List LogEntry). plan_of l a.scenario) log ∙ ap (plan_of b.log) scenario in
    let one = run-simulated a ra in
    let other = run-simulated b rb in
    record {
      starts = one.starts ∙ ap sim plan ∙ sym other.starts;
      schedule = one.schedule ∙ ap rows_of plan ∙ sym other.schedule;
      tables = one-tables b.log b.scenario a.tables b.tables (subst (λ (l : List LogEntry). IsTablesOf l b.scenario a.tables) log (subst (λ (s : ScenarioView). IsTablesOf a.log s a.tables) scenario ra.tables)) rb.tables;
    }
