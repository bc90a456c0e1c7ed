use Rattle.std.proofs.Common.{◌≡◌, find, nat_eq}
use Rattle.scenarios.specs.Job.{EffectiveJob}
use Rattle.cluster_state.proofs.queue.Queue.find.Given as goal

abbrev pub invariant-loop-job : goal.invariant-loop-job
invariant-loop-job g l = find (λ (j : EffectiveJob). nat_eq j.number l.number) l.job-iterator ≡ find (λ (j : EffectiveJob). nat_eq j.number l.number) l.self.jobs
