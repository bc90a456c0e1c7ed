-- What holds of every book.
use Rattle.std.specs.Prelude.{◌≡◌, ℕ, ◌+◌, ◌≤◌, ◌<◌, List, map, length, IfSome}
use Rattle.std.specs.List.{All}
use Rattle.swf_text.specs.Entry.{LogEntry}
use Rattle.job_table.specs.Accepted.{AreAccepted}
use Rattle.job_table.specs.Edit.{LogEdit, log_after, log_at}
use Rattle.job_table.specs.Table.{IsTable}
use Rattle.scenarios.specs.Scenario.{ScenarioView}
use Rattle.scenarios.specs.ScenarioList.{Listing, Listed, IdsRise}
use Rattle.checkpoints.specs.RunView.{IsRun}
use Rattle.checkpoints.specs.Spacing.{IsSpacing}
use Rattle.book_machine.specs.Machine.{opened, note_limit, ticket_limit}
use Rattle.book_machine.specs.History.{IsLegal, after_all}
use Rattle.tasks.specs.Published.{PublishedView}
use Rattle.tasks.specs.Tickets.{TicketView}
use Rattle.version_book.specs.Book.{ShownView, StateView, BookView, machine_of}

-- ---- the runs

-- a run of the log of its version under this scenario; the version is the current one or an older one
pub record IsOfItsVersion (opening : List LogEntry) (accepted : List LogEdit) (under : ScenarioView) (p : PublishedView) : Type 0 where
  pub made : p.version ≤ length accepted
  pub log : p.run.log ≡ log_at opening accepted p.version
  pub scenario : p.run.scenario ≡ under
  pub run : IsRun p.run

-- Whatever is shown for a scenario is the simulation, second by second, of the log of the version that it names.
abbrev pub EachPublishedRunIsOfItsVersion : StateView → Type 0
EachPublishedRunIsOfItsVersion s = All (λ (x : ShownView). IfSome x.published (IsOfItsVersion s.opening s.edits x.scenario)) s.shown

-- a ticket of the log of its version
pub record IsTicketOfItsVersion (opening : List LogEntry) (accepted : List LogEdit) (t : TicketView) : Type 0 where
  pub made : t.version ≤ length accepted
  pub log : t.log ≡ log_at opening accepted t.version

-- a ticket whose id was given, under the scenario that has this id
pub record IsTicketOfItsScenario (shown : List ShownView) (next : ℕ) (t : TicketView) : Type 0 where
  pub scenario : All (λ (x : ShownView). x.id ≡ t.id → x.scenario ≡ t.scenario) shown
  pub given : t.id < next

-- ---- the book

-- an id with what its scenario is simulated under
abbrev pub Under : Type 0
Under = ℕ × ScenarioView

abbrev pub under_of_shown : ShownView → Under
under_of_shown x = (x.id, x.scenario)

abbrev pub under_of_listed : Listed → Under
under_of_listed x = (x.id, x.scenario)

-- what is shown are the listed scenarios, in their order
abbrev pub AreListed : List ShownView → Listing → Type 0
AreListed shown listing = map under_of_shown shown ≡ map under_of_listed listing.scenarios

-- where a book stands: the current log is the opening one after the accepted edits, and each run and ticket is of its version
pub record IsSound (s : StateView) : Type 0 where
  pub spacing : IsSpacing s.spacing
  pub opening : IsTable s.opening
  pub accepted : AreAccepted s.opening s.edits
  pub current : s.current ≡ log_after s.opening s.edits
  pub listed : AreListed s.shown s.listing
  pub ids : IdsRise 1 s.listing.scenarios s.listing.next
  pub runs : EachPublishedRunIsOfItsVersion s
  pub tickets : All (IsTicketOfItsVersion s.opening s.edits) s.tickets
  pub claimed : All (IsTicketOfItsScenario s.shown s.listing.next) s.tickets
  pub few : length s.tickets ≤ ticket_limit

-- every book: it is sound, and its journal is a legal history of the opened log that leads to where it stands
pub record IsBook (b : BookView) : Type 0 where
  pub sound : IsSound b.state
  pub legal : IsLegal (opened b.state.opening) b.journal
  pub led : after_all (opened b.state.opening) b.journal ≡ machine_of b
  pub capacity : length b.journal ≤ note_limit
  pub numbers : b.state.next_ticket ≤ length b.journal + 1
