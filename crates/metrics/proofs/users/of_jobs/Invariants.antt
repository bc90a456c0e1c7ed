use Rattle.std.proofs.Common.{◌≡◌, ℤ, take, map}
use Rattle.metrics.specs.Users.{sums_of, user_total, IsUserList}
use Rattle.metrics.proofs.users.of_jobs.Given as goal

abbrev pub invariant-loop-each : goal.invariant-loop-each
invariant-loop-each g l = record {
  list : IsUserList l.users.items;
  sums : (q : ℤ) → user_total q l.users.items ≡ sums_of q (take l.each-index (map (λ job. job.now) l.each-items));
}
