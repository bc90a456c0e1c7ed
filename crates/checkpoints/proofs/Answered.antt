-- The rows that a run's own starts give.
use Rattle.std.proofs.Common.{◌≡◌, ℕ, List, ◌++◌, map, length, refl, ap, sym, subst, ◌∙◌}
use Rattle.std.specs.List.{filter_map}
use Rattle.std.proofs.lemmas.List.{length-map}
use Rattle.scenarios.specs.Job.{EffectiveJob}
use Rattle.scenarios.specs.Plan.{Plan}
use Rattle.scenarios.specs.SoundPlan.{IsPlan}
use Rattle.easy_rule.specs.declared.start.Start.{Start}
use Rattle.easy_rule.specs.Simulation.{sim, start_of, starts_before}
use Rattle.event_loop.specs.Events.{Progress, begun}
use Rattle.timeline.proofs.Lemmas.{all-start-early}
use Rattle.checkpoints.specs.Segment.{SegmentView}
use Rattle.checkpoints.specs.Cut.{IsCut, all_starts}
use Rattle.checkpoints.specs.declared.row.Row.{Row}
use Rattle.checkpoints.specs.Schedule.{rows_of}
use Rattle.checkpoints.specs.Starts.{KnownStarts, AreEarly, known_start, row_by}
use Rattle.checkpoints.proofs.Chains.{cut-outcome}
use Rattle.checkpoints.proofs.EachRow.{each-job-has-a-row}
use Rattle.checkpoints.proofs.Found.{found-early}
use Rattle.checkpoints.proofs.Known.{rows-same, early-same}

-- an engine that begins at second 0 and comes to the end has all starts of the simulation
pub outcome-whole : (plan whole : Plan) (begins : Progress) (xs : List Start) → begins ≡ begun whole 0 → whole ≡ plan → starts_before begins.plan begins.position ++ xs ≡ sim begins.plan → xs ≡ sim plan
unfolding starts_before
outcome-whole plan whole begins xs is same all =
    let from : xs ≡ sim whole = subst (λ (p : Progress). starts_before p.plan p.position ++ xs ≡ sim p.plan) is all in
    from ∙ ap sim same

-- where the starts of a cut's segments are known, each number starts as in the simulation
pub outcome-cut : (plan : Plan) (ss seen : List SegmentView) (known : KnownStarts) → IsPlan plan → IsCut plan ss → seen ≡ ss → ((n : ℕ) → known_start known n ≡ start_of (all_starts seen) n)
    → (n : ℕ) → known_start known n ≡ start_of (sim plan) n
outcome-cut plan ss seen known p cut same gives n = gives n ∙ ap (λ (xs : List SegmentView). start_of (all_starts xs) n) same ∙ ap (λ xs. start_of xs n) (cut-outcome plan ss p cut)

module _ (plan : Plan) (known : KnownStarts) (p : IsPlan plan) (outcome : (n : ℕ) → known_start known n ≡ start_of (sim plan) n) where
  -- where each number is known to start as in the simulation, the known starts are early
  pub outcome-early : AreEarly known
  outcome-early = early-same known (sim plan) outcome (λ n. found-early (sim plan) n (all-start-early plan (sim plan) p refl))

  -- where each number is known to start as in the simulation, the rows of the plan's jobs are its schedule
  pub outcome-rows : (jobs : List EffectiveJob) → jobs ≡ plan.jobs → filter_map (row_by known) jobs ≡ rows_of plan
  outcome-rows jobs e = ap (filter_map (row_by known)) e ∙ rows-same known (sim plan) plan.jobs outcome

  -- where each number is known to start as in the simulation, the rows have the numbers of the plan's jobs, in order
  pub outcome-numbers : (jobs : List EffectiveJob) → jobs ≡ plan.jobs → map (λ (r : Row). r.number) (filter_map (row_by known) jobs) ≡ map (λ (j : EffectiveJob). j.number) plan.jobs
  outcome-numbers jobs e = ap (map (λ (r : Row). r.number)) (outcome-rows jobs e) ∙ each-job-has-a-row plan p

  -- where each number is known to start as in the simulation, there are as many rows as the plan has jobs
  pub outcome-count : (jobs : List EffectiveJob) → jobs ≡ plan.jobs → length (filter_map (row_by known) jobs) ≡ length plan.jobs
  outcome-count jobs e = sym (length-map (filter_map (row_by known) jobs) (λ (r : Row). r.number)) ∙ ap length (outcome-numbers jobs e) ∙ length-map plan.jobs (λ (j : EffectiveJob). j.number)
