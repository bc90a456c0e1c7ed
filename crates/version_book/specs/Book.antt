-- What callers see of a book: its log, its scenarios with their runs, its tickets, and its journal.
use Rattle.std.specs.Prelude.{ℕ, List, map, length, Option}
use Rattle.std.specs.Option.{option_map}
use Rattle.swf_text.specs.Entry.{LogEntry}
use Rattle.job_table.specs.Edit.{LogEdit}
use Rattle.scenarios.specs.Scenario.{ScenarioView}
use Rattle.scenarios.specs.ScenarioList.{Listing}
use Rattle.book_machine.specs.Machine.{Machine, Progress, Ticket}
use Rattle.book_machine.specs.History.{Noted}
use Rattle.tasks.specs.Published.{PublishedView}
use Rattle.tasks.specs.Tickets.{TicketView}

-- a scenario: its id, what a log is simulated under, what is published for it, and the version at which it was given up
pub record ShownView : Type 0 where
  pub id : ℕ
  pub scenario : ScenarioView
  pub published : Option PublishedView
  pub mark : Option ℕ

-- The spacing of runs; the log that was opened, that of the current version, and the edits between them; the scenarios
-- by name, and what is shown of each; the standing tickets, and the number of the next.
pub record StateView : Type 0 where
  pub spacing : ℕ
  pub opening : List LogEntry
  pub current : List LogEntry
  pub edits : List LogEdit
  pub listing : Listing
  pub shown : List ShownView
  pub tickets : List TicketView
  pub next_ticket : ℕ

-- a book: where it stands, and all calls that led to it
pub record BookView : Type 0 where
  pub state : StateView
  pub journal : List Noted

-- ---- as the machine sees it: by versions alone

abbrev pub published_version : ShownView → Option ℕ
published_version s = option_map (λ p. p.version) s.published

abbrev pub progress_of_shown : ShownView → Progress
progress_of_shown s = record { id = s.id; published = published_version s; mark = s.mark }

abbrev pub ticket_of_view : TicketView → Ticket
ticket_of_view t = record { number = t.number; id = t.id; version = t.version }

-- after this many calls
abbrev pub machine_at : ℕ → StateView → Machine
machine_at notes s = record {
  opening = s.opening;
  edits = s.edits;
  listing = s.listing;
  progress = map progress_of_shown s.shown;
  tickets = map ticket_of_view s.tickets;
  next_ticket = s.next_ticket;
  notes = notes;
}

-- the state of the book machine that a book is in
abbrev pub machine_of : BookView → Machine
machine_of b = machine_at (length b.journal) b.state
