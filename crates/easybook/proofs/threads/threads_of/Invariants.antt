use Rattle.std.proofs.Common.{◌≡◌, vec_len}
use Rattle.easybook.proofs.threads.threads_of.Given as goal

abbrev pub invariant-loop : goal.invariant-loop
invariant-loop g l = vec_len l.threads ≡ l.counter
