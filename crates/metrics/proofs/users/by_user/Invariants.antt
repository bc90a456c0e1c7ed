use Rattle.std.proofs.Common.{◌≡◌, take, map}
use Rattle.metrics.proofs.users.by_user.Given as goal

abbrev pub invariant-loop-each : goal.invariant-loop-each
invariant-loop-each g l = map (λ job. job.now) l.jobs.items ≡ take l.each-index l.placed
