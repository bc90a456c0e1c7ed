use Rattle.std.proofs.Common.{◌≡◌, ℕ, ◌<◌, get_or, map, true}
use Rattle.book_machine.specs.History.{Noted}
use Rattle.book_machine.specs.Noted.{noted_of}
use Rattle.workers.specs.Closing.{is_known}
use Rattle.workers.proofs.listing.are_known.Given as goal

abbrev pub invariant-loop-note : goal.invariant-loop-note
invariant-loop-note g l = (k : ℕ) (d : Noted) → k < l.note-index → is_known l.sessions l.workers (get_or (map noted_of l.notes) k d) ≡ true
