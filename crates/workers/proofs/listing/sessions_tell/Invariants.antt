use Rattle.std.proofs.Common.{◌≡◌, ℕ, ◌<◌, get_or, map}
use Rattle.book_machine.specs.declared.caller.Caller.TheVariants as caller
use Rattle.book_machine.specs.Noted.{noted_of}
use Rattle.workers.specs.Callers.{SessionView}
use Rattle.workers.specs.Lists.{part_of}
use Rattle.workers.proofs.listing.sessions_tell.Given as goal

abbrev pub invariant-loop-session : goal.invariant-loop-session
invariant-loop-session g l = (k : ℕ) (d : SessionView) → k < l.session-index → (get_or l.sessions k d).list ≡ part_of (caller.Session (get_or l.sessions k d).number) (map noted_of l.notes)
