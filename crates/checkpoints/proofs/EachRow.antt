-- Each job has its row.
use Rattle.std.proofs.Common.{◌≡◌, ℕ, ◌≤◌, List, [], ◌∷◌, Option, Some, None, map, All, refl, ap}
use Rattle.std.specs.Prelude.{IsSomeAnd}
use Rattle.std.specs.List.{cons_option, filter_map}
use Rattle.std.specs.Option.{option_map}
use Rattle.std.proofs.lemmas.List.Elements.{All-head, All-tail}
use Rattle.scenarios.specs.Job.{EffectiveJob}
use Rattle.easy_rule.specs.declared.start.Start.{Start}
use Rattle.easy_rule.specs.Simulation.{sim, start_of}
use Rattle.timeline.proofs.Lemmas.{none-starts-early}
use Rattle.checkpoints.specs.declared.row.Row.{Row}
use Rattle.checkpoints.specs.Schedule.{row_at, row_of, EachJobHasARow}

abbrev numbers_of : List Row → List ℕ
numbers_of rows = map (λ (r : Row). r.number) rows

rows-numbered : (starts : List Start) (jobs : List EffectiveJob) → All (λ (j : EffectiveJob). IsSomeAnd (start_of starts j.number) (λ t. j.submit ≤ t)) jobs → numbers_of (filter_map (row_of starts) jobs) ≡ map (λ (j : EffectiveJob). j.number) jobs
rows-numbered starts [] h = refl
rows-numbered starts (j ∷ js) h =
    let Starts : EffectiveJob → Type 0 = λ k. IsSomeAnd (start_of starts k.number) (λ t. k.submit ≤ t) in
    go (start_of starts j.number) (All-head Starts j js h) (rows-numbered starts js (All-tail Starts j js h))
  where
    go : (o : Option ℕ) → IsSomeAnd o (λ t. j.submit ≤ t) → numbers_of (filter_map (row_of starts) js) ≡ map (λ (k : EffectiveJob). k.number) js → numbers_of (cons_option (option_map (row_at j) o) (filter_map (row_of starts) js)) ≡ j.number ∷ map (λ (k : EffectiveJob). k.number) js
    go None s rest = absurd s
    go (Some t) s rest = ap (λ l. j.number ∷ l) rest

-- the rows of a sound plan have the numbers of its jobs, in order
pub each-job-has-a-row : EachJobHasARow
each-job-has-a-row plan p = rows-numbered (sim plan) plan.jobs (none-starts-early plan p)
