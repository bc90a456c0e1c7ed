use Rattle.std.proofs.Common.{ℕ, ◌<◌, get_or}
use Rattle.chronicle.specs.Fronts.{Begins}
use Rattle.workers.specs.Callers.{SessionView}
use Rattle.workers.proofs.closing.sessions_begin.Given as goal

abbrev pub invariant-loop-session : goal.invariant-loop-session
invariant-loop-session g l = (k : ℕ) (d : SessionView) → k < l.session-index → Begins (get_or l.sessions k d).front l.whole
