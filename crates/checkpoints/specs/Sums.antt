-- The tables of a log under a scenario: plain sums over its jobs, at the starts that the simulation gives them.
use Rattle.std.specs.Prelude.{◌≡◌, List}
use Rattle.swf_text.specs.Entry.{LogEntry}
use Rattle.scenarios.specs.Scenario.{ScenarioView}
use Rattle.scenarios.specs.Job.{EffectiveJob}
use Rattle.scenarios.specs.Plan.{Plan, plan_of}
use Rattle.scenarios.specs.Skips.{skips_of}
use Rattle.easy_rule.specs.Simulation.{sim}
use Rattle.scenarios.specs.declared.placed.Placed.{Placed}
use Rattle.metrics.specs.Part.{PartSums, IsPartOf}
use Rattle.metrics.specs.Tables.{TableRows, tables_of}
use Rattle.checkpoints.specs.Segment.{SegmentView}
use Rattle.checkpoints.specs.Cut.{placed_of}

-- the jobs of a plan with the seconds at which they start in its simulation, second by second, in order of starting
abbrev pub all_placed : Plan → List Placed
all_placed plan = placed_of plan.jobs (sim plan)

-- The tables are those of the log under the scenario: made of the sums over all its jobs, each at its start, for the
-- scenario's machine, with the skipped entries counted by reason. Jobs have one part, so there is one such table.
abbrev pub IsTablesOf : List LogEntry → ScenarioView → TableRows → Type 0
IsTablesOf log scenario tables =
    (part : PartSums) × IsPartOf (all_placed (plan_of log scenario)) part × (tables ≡ tables_of scenario.procs (skips_of log scenario) part)

-- the segment has the sums over the jobs of its own starts
abbrev pub HasOwnPart : List EffectiveJob → SegmentView → Type 0
HasOwnPart jobs s = IsPartOf (placed_of jobs s.starts) s.part
