use Rattle.std.proofs.Common.{◌≡◌, ℕ, ◌<◌, true}
use Rattle.workers.specs.Closing.{has_session}
use Rattle.workers.proofs.roster.are_sessions_in.Given as goal

abbrev pub invariant-loop-number : goal.invariant-loop-number
invariant-loop-number g l = (k : ℕ) → k < l.number → has_session l.sessions k ≡ true
