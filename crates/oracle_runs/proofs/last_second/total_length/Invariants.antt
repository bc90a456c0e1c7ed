use Rattle.std.proofs.Common.{◌≡◌, ◌≤◌, ◌+◌, ◌*◌, sum_by, drop}
use Rattle.oracle_runs.proofs.last_second.total_length.Given as goal

abbrev pub invariant-loop-job : goal.invariant-loop-job
invariant-loop-job l = record {
  value : l.total + sum_by (λ j. j.length) (drop l.job-index l.jobs) ≡ sum_by (λ j. j.length) l.jobs;
  limit : l.total ≤ 100000000 * l.job-index;
}
