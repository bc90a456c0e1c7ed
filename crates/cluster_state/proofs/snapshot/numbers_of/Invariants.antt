use Rattle.std.proofs.Common.{◌≡◌, ◌++◌, map}
use Rattle.scenarios.specs.Job.{EffectiveJob}
use Rattle.cluster_state.proofs.snapshot.numbers_of.Given as goal

abbrev pub invariant-loop-job : goal.invariant-loop-job
invariant-loop-job g l = l.numbers.items ++ map (λ (j : EffectiveJob). j.number) l.job-iterator ≡ map (λ (j : EffectiveJob). j.number) l.queue.jobs
