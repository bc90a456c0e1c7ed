-- The book that a session begins with.
use Rattle.std.specs.Prelude.{◌≡◌, ℕ, List, Option}
use Rattle.swf_text.specs.Entry.{LogEntry}
use Rattle.scenarios.specs.ScenarioList.{Listing}
use Rattle.version_book.specs.Book.{BookView, machine_of}
use Rattle.scripts.specs.Transcript.{begun}
use Rattle.easybook.specs.Opened.{IsOpened}

-- The book is of the log's jobs. Its scenarios were added in their order, each by a call of its own: where one were refused
-- there, that is noted and the next is added. Runs are to be made in segments of at most this many event seconds.
pub record IsBookOf (log : List ℕ) (procs : Option ℕ) (spacing : ℕ) (comments : List (List ℕ)) (book : BookView) : Type 0 where
  pub table : List LogEntry
  pub scenarios : Listing
  pub is_opened : IsOpened log procs comments table scenarios
  pub begins : machine_of book ≡ (begun table scenarios.scenarios).machine
  pub segments : book.state.spacing ≡ spacing
