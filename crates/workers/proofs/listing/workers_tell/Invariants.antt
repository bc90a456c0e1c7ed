use Rattle.std.proofs.Common.{◌≡◌, ℕ, ◌<◌, get_or, map}
use Rattle.book_machine.specs.declared.caller.Caller.TheVariants as caller
use Rattle.book_machine.specs.Noted.{noted_of}
use Rattle.workers.specs.Callers.{WorkerView}
use Rattle.workers.specs.Lists.{part_of}
use Rattle.workers.proofs.listing.workers_tell.Given as goal

abbrev pub invariant-loop-worker : goal.invariant-loop-worker
invariant-loop-worker g l = (k : ℕ) (d : WorkerView) → k < l.worker-index → (get_or l.workers k d).list ≡ part_of (caller.Worker (get_or l.workers k d).number) (map noted_of l.notes)
