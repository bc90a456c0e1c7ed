-- The calls of the book, without the memory that holds their arguments.
use Rattle.std.specs.Prelude.{ℕ, Bool, List}
use Rattle.job_table.specs.Edit.{LogEdit}
use Rattle.scenarios.specs.Scenario.{ScenarioView}

-- An analyst edits the log, adds or drops a scenario by name, takes a mark away, or looks at what is published; a worker
-- claims a ticket, hands in a run for one, which fits or doesn't, or gives one up. A run is written as whether it fits.
pub data BookCall : Type 0 where
  Edit : (edit : LogEdit) → BookCall
  AddScenario : (name : List ℕ) (scenario : ScenarioView) → BookCall
  DropScenario : (name : List ℕ) → BookCall
  Retry : (id : ℕ) → BookCall
  Claim : BookCall
  Finish : (ticket : ℕ) (fits : Bool) → BookCall
  GiveUp : (ticket : ℕ) → BookCall
  View : (id seen : ℕ) → BookCall
