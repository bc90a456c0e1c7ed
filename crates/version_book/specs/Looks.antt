-- What a published run is that a view shows.
use Rattle.std.specs.Prelude.{◌≡◌, ℕ, ◌≤◌, List, length, Some, slice_get}
use Rattle.swf_text.specs.Entry.{LogEntry}
use Rattle.job_table.specs.Edit.{log_at}
use Rattle.scenarios.specs.ScenarioList.{Listed}
use Rattle.checkpoints.specs.Simulated.{IsSimulated}
use Rattle.book_machine.specs.Machine.{Machine}
use Rattle.tasks.specs.Published.{PublishedView}

-- the log of a version
abbrev pub log_of_version : Machine → ℕ → List LogEntry
log_of_version m v = log_at m.opening m.edits v

-- The run that is published is of a version that was made, of its log and under the scenario, and it is their simulation, second by
-- second from the first one on: its starts, its schedule and its tables.
pub record IsOf (m : Machine) (s : Listed) (p : PublishedView) : Type 0 where
  pub made : p.version ≤ length m.edits
  pub log : p.run.log ≡ log_of_version m p.version
  pub scenario : p.run.scenario ≡ s.scenario
  pub simulated : IsSimulated (log_of_version m p.version) s.scenario p.run

-- a scenario of the list, at some place, with this id
pub record IsListedAs (m : Machine) (wanted : ℕ) (s : Listed) : Type 0 where
  pub place : ℕ
  pub listed : slice_get m.listing.scenarios place ≡ Some s
  pub id : s.id ≡ wanted

-- a scenario is listed with this id, and the run is that of each that is
pub record IsLooked (m : Machine) (id : ℕ) (p : PublishedView) : Type 0 where
  pub listed : (s : Listed) × IsListedAs m id s
  pub is : (s : Listed) → IsListedAs m id s → IsOf m s p
