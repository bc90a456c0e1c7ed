use Rattle.std.proofs.Common.{◌≡◌, ◌+◌, ◌-◌, ◌≤◌, ◌++◌, length, map, take, vec_len, vec_capacity}
use Rattle.easy_rule.specs.Pass.{start_at}
use Rattle.easy_rule.proofs.start.add_starts.Given as goal

abbrev pub invariant-loop-job : goal.invariant-loop-job
invariant-loop-job g l = record {
  starts : l.starts.items ≡ l.fn.starts.items ++ map (start_at l.now) (take l.job-index l.jobs);
  capacity : vec_len l.starts + (length l.jobs - l.job-index) ≤ vec_capacity l.starts;
}
