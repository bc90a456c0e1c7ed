-- The job that an entry of a log is under a scenario, or why it is skipped.
-- Fields are those of the Standard Workload Format, version 2, taken to the nearest whole number.
use Rattle.std.specs.Prelude.{ℕ, ℤ, pos, negsuc, ◌+◌, ◌*◌, ◌/◌, ◌==◌, ◌||◌, nat_lt, max, min, if◌then◌else◌, List, Option, Some, None, Result, Ok, Err, unwrap_or}
use Rattle.std.specs.Option.{option_or}
use Rattle.swf_text.specs.Number.{whole_of}
use Rattle.swf_text.specs.Entry.{LogEntry, field, number_of_entry, submit_of}
use Rattle.scenarios.specs.Limits.{estimate_limit}
use Rattle.scenarios.specs.declared.skip.Skip.{Skip}
use Rattle.scenarios.specs.declared.skip.Skip.TheVariants.{NoSize, NoRun, TooLarge, TooLong}
use Rattle.scenarios.specs.Job.{EffectiveJob}
use Rattle.scenarios.specs.Scenario.{ScenarioView}

-- a field of a line, to the nearest whole number
abbrev pub whole_field : List ℤ → ℕ → ℤ
whole_field line place = whole_of (field line place)

-- the number, where it is at least 0
abbrev pub natural : ℤ → Option ℕ
natural (pos n) = Some n
natural (negsuc n) = None

-- the number, where it is above 0
abbrev pub positive : ℤ → Option ℕ
positive (pos n) = if n == 0 then None else Some n
positive (negsuc n) = None

-- the processors that a job asks for (field 8), or else was given (field 5)
abbrev pub size_of : List ℤ → Option ℕ
size_of line = option_or (positive (whole_field line 8)) (positive (whole_field line 5))

-- the seconds that it ran (field 4)
abbrev pub run_of : List ℤ → Option ℕ
run_of line = natural (whole_field line 4)

-- the seconds that it asks for (field 9), or else ran
abbrev pub base_of : List ℤ → ℕ → ℕ
base_of line run = unwrap_or (positive (whole_field line 9)) run

-- the seconds that it is expected to run: the base times the factor in thousandths, rounded up, and at least one
abbrev pub estimate_of : ℕ → ℕ → ℕ
estimate_of base factor = max 1 ((base * factor + 999) / 1000)

-- the seconds that it runs: it is killed at its estimate, and takes at least one
abbrev pub length_of : ℕ → ℕ → ℕ
length_of run estimate = max 1 (min run estimate)

-- the job of this size, run and estimate
abbrev pub job_of : LogEntry → ℕ → ℕ → ℕ → EffectiveJob
job_of entry size run estimate = record {
  number = number_of_entry entry;
  submit = submit_of entry;
  size = size;
  estimate = estimate;
  length = length_of run estimate;
  user = whole_field entry.main 12;
  killed = nat_lt estimate run;
}

-- an estimate or a length above the limit is skipped
abbrev pub unless_too_long : EffectiveJob → Result EffectiveJob Skip
unless_too_long job = if nat_lt estimate_limit job.estimate || nat_lt estimate_limit job.length then Err TooLong else Ok job

abbrev pub of_size_and_run : LogEntry → ScenarioView → ℕ → Option ℕ → Result EffectiveJob Skip
of_size_and_run entry scenario size None = Err NoRun
of_size_and_run entry scenario size (Some run) =
    if nat_lt scenario.procs size then Err TooLarge
    else unless_too_long (job_of entry size run (estimate_of (base_of entry.main run) scenario.factor))

abbrev pub of_size : LogEntry → ScenarioView → Option ℕ → Result EffectiveJob Skip
of_size entry scenario None = Err NoSize
of_size entry scenario (Some size) = of_size_and_run entry scenario size (run_of entry.main)

-- the job that an entry is under a scenario, or the first reason to skip it
abbrev pub effective : LogEntry → ScenarioView → Result EffectiveJob Skip
effective entry scenario = of_size entry scenario (size_of entry.main)
