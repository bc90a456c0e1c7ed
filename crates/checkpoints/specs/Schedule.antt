-- The schedule of a plan, row by row.
use Rattle.std.specs.Prelude.{◌≡◌, ℕ, ◌+◌, List, Option, map}
use Rattle.std.specs.List.{filter_map}
use Rattle.std.specs.Option.{option_map}
use Rattle.scenarios.specs.Job.{EffectiveJob}
use Rattle.scenarios.specs.Plan.{Plan}
use Rattle.easy_rule.specs.declared.start.Start.{Start}
use Rattle.easy_rule.specs.Simulation.{sim, start_of}
use Rattle.scenarios.specs.SoundPlan.{IsPlan}
use Rattle.checkpoints.specs.declared.row.Row.{Row}

-- the row of a job that starts at this second
abbrev pub row_at : EffectiveJob → ℕ → Row
row_at job start = record { number = job.number; submit = job.submit; start = start; end = start + job.length; size = job.size; user = job.user; killed = job.killed }

-- the row of a job, at its start among these
abbrev pub row_of : List Start → EffectiveJob → Option Row
row_of starts job = option_map (row_at job) (start_of starts job.number)

-- the schedule of a plan: a row for each of its jobs, in the order of the log, with the start that the simulation of the
-- plan, second by second, gives it
abbrev pub rows_of : Plan → List Row
rows_of plan = filter_map (row_of (sim plan)) plan.jobs

-- the rows of a schedule are, number by number and in order, those of the plan's jobs
abbrev pub EachJobHasARow : Type 0
EachJobHasARow = (plan : Plan) → IsPlan plan → map (λ r. r.number) (rows_of plan) ≡ map (λ j. j.number) plan.jobs
