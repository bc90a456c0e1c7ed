use Rattle.std.proofs.Common.{◌≡◌, count_by, nat_eq}
use Rattle.scenarios.specs.Job.{EffectiveJob}
use Rattle.cluster_state.proofs.changes.waits.Given as goal

abbrev pub invariant-loop-job : goal.invariant-loop-job
invariant-loop-job l = count_by (λ (j : EffectiveJob). nat_eq j.number l.number) l.job-iterator ≡ count_by (λ (j : EffectiveJob). nat_eq j.number l.number) l.fn.waiting
