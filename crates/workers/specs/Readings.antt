-- What is read of the book under the lock. It is a book at every moment at which the lock is got.
use Rattle.std.specs.Prelude.{◌&&◌, ℕ, Bool, is_none, not}
use Rattle.tasks.specs.Published.{PublishedView}
use Rattle.version_book.specs.Book.{BookView, StateView}
use Rattle.version_book.specs.Sound.{IsBook}
use Rattle.version_book.specs.Tasks.{IsShownFor, free_due}

-- a worker has nothing to do and is not to end: the desk isn't stopped, and no ticket is to be had
abbrev pub is_idle : Bool → StateView → Bool
is_idle stopped s = not stopped && is_none (free_due s)

-- At some moment this was shown by a book: it is what the book had published for the scenario, at a version that is not below the
-- one seen, and the simulation, second by second, of that version's log under the scenario.
abbrev pub IsShownOnce : ℕ → ℕ → PublishedView → Type 0
IsShownOnce id seen p = (b : BookView) × IsBook b × IsShownFor b.state id seen p
