use Rattle.std.proofs.Common.{◌≡◌, vec_len}
use Rattle.easybook.proofs.threads.workers_of.Given as goal

abbrev pub invariant-loop : goal.invariant-loop
invariant-loop g l = vec_len l.workers ≡ l.counter
