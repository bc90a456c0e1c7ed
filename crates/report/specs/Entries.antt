-- The report on a log: what its entries are under a scenario.
use Rattle.std.specs.Prelude.{ℕ, List, ◌++◌, length, codes, Result, Ok, Err}
use Rattle.std.specs.List.{flat_map}
use Rattle.std.specs.Fmt.{decimal, signed_decimal}
use Rattle.swf_text.specs.Entry.{LogEntry, number_of_entry}
use Rattle.scenarios.specs.declared.skip.Skip.{Skip}
use Rattle.scenarios.specs.Job.{EffectiveJob}
use Rattle.scenarios.specs.Scenario.{ScenarioView}
use Rattle.scenarios.specs.Effective.{effective}
use Rattle.scenarios.specs.Names.{skip_name}
use Rattle.report.specs.Pieces.{right, cell, verdict}
use Rattle.report.specs.Heading.{heading}

-- a job's submit second, size, estimate, length and user, and whether it is killed
abbrev pub job_cells : EffectiveJob → List ℕ
job_cells job =
    cell 10 job.submit ++ cell 8 job.size ++ cell 10 job.estimate ++ cell 10 job.length ++ codes " " ++ right 8 (signed_decimal job.user)
    ++ verdict job.killed

-- what is written of an entry: its job, or why it is skipped
abbrev pub job_or_reason : Result EffectiveJob Skip → List ℕ
job_or_reason (Ok job) = job_cells job
job_or_reason (Err skip) = codes " skipped " ++ skip_name skip ++ codes "\n"

-- an entry's number, and what it is under the scenario
abbrev pub entry_line : ScenarioView → LogEntry → List ℕ
entry_line scenario entry = right 8 (decimal (number_of_entry entry)) ++ job_or_reason (effective entry scenario)

-- a line for each entry, in the order of the log
abbrev pub log_text : List ℕ → ℕ → List LogEntry → ScenarioView → List ℕ
log_text name version log scenario = heading (codes "log") name version (codes "entries") (length log) ++ flat_map (entry_line scenario) log
