use Rattle.std.proofs.Common.{◌≡◌, count_by, nat_eq}
use Rattle.scenarios.specs.declared.placed.Placed.{Placed}
use Rattle.cluster_state.proofs.changes.runs.Given as goal

abbrev pub invariant-loop-r : goal.invariant-loop-r
invariant-loop-r g l = count_by (λ (r : Placed). nat_eq r.job.number l.number) l.r-iterator ≡ count_by (λ (r : Placed). nat_eq r.job.number l.number) l.fn.running
