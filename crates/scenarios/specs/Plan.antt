-- What is simulated: the jobs of a log under a scenario.
use Rattle.std.specs.Prelude.{ℕ, nat_eq, nat_le, List, Option, filter, find}
use Rattle.std.specs.List.{filter_map}
use Rattle.std.specs.Result.{result_ok}
use Rattle.swf_text.specs.Entry.{LogEntry}
use Rattle.scenarios.specs.declared.order.Order.{Order}
use Rattle.scenarios.specs.Job.{EffectiveJob}
use Rattle.scenarios.specs.Scenario.{ScenarioView}
use Rattle.scenarios.specs.Effective.{effective}

-- the machine's processors, the order of backfills, and the jobs in the order of the log
pub record Plan : Type 0 where
  pub procs : ℕ
  pub order : Order
  pub jobs : List EffectiveJob

-- the jobs of these entries that are not skipped
abbrev pub jobs_of : List LogEntry → ScenarioView → List EffectiveJob
jobs_of entries scenario = filter_map (λ entry. result_ok (effective entry scenario)) entries

-- the plan of a log under a scenario
abbrev pub plan_of : List LogEntry → ScenarioView → Plan
plan_of log scenario = record { procs = scenario.procs; order = scenario.order; jobs = jobs_of log scenario }

-- the first of these jobs that has the number
abbrev pub job_numbered : List EffectiveJob → ℕ → Option EffectiveJob
job_numbered jobs n = find (λ j. nat_eq j.number n) jobs

-- the jobs that are submitted at a second or later
abbrev pub from_on : ℕ → List EffectiveJob → List EffectiveJob
from_on t jobs = filter (λ j. nat_le t j.submit) jobs
