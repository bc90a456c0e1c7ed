-- Tasks: what a claim gives to a worker, and how its run is made.
use Rattle.std.specs.Prelude.{◌≡◌, ℕ, List, drop, Option, None, Some, IfSome}
use Rattle.std.specs.Option.{option_map}
use Rattle.swf_text.specs.Entry.{LogEntry}
use Rattle.job_table.specs.Accepted.{AreAccepted}
use Rattle.job_table.specs.Edit.{LogEdit, log_after}
use Rattle.scenarios.specs.Plan.{plan_of}
use Rattle.scenarios.specs.Scenario.{ScenarioView}
use Rattle.checkpoints.specs.Cut.{IsShortCut}
use Rattle.checkpoints.specs.RunView.{RunView}
use Rattle.checkpoints.specs.Spacing.{IsSpacing}
use Rattle.rejoin.specs.Patch.{IsRejoined}
use Rattle.rejoin.specs.declared.simulation.Work.{Work}
use Rattle.tasks.specs.Published.{PublishedView}
use Rattle.tasks.specs.Tickets.{TicketView}

-- what a task starts from: the published run with its version, and the edits that were accepted since
pub record BaseView : Type 0 where
  pub version : ℕ
  pub run : RunView
  pub edits : List LogEdit

-- A run of this log under this scenario is requested, in segments of this spacing.
pub record TaskView : Type 0 where
  pub ticket : ℕ
  pub id : ℕ
  pub version : ℕ
  pub log : List LogEntry
  pub scenario : ScenarioView
  pub spacing : ℕ
  pub base : Option BaseView

-- the base's run has the scenario, and its log after the edits, each of them accepted, is this log
pub record LeadsTo (wanted : List LogEntry) (under : ScenarioView) (b : BaseView) : Type 0 where
  pub scenario : b.run.scenario ≡ under
  pub accepted : AreAccepted b.run.log b.edits
  pub log : wanted ≡ log_after b.run.log b.edits

-- what holds of every task
pub record IsTask (t : TaskView) : Type 0 where
  pub spacing : IsSpacing t.spacing
  pub base : IfSome t.base (LeadsTo t.log t.scenario)

-- the base that a published run makes, with the edits since its version
abbrev pub base_since : List LogEdit → PublishedView → BaseView
base_since edits p = record { version = p.version; run = p.run; edits = drop p.version edits }

abbrev pub bases_since : List LogEdit → Option PublishedView → Option BaseView
bases_since edits published = option_map (base_since edits) published

-- the ticket of a task, with the log and the scenario that its run is to have
abbrev pub ticket_for : TaskView → TicketView
ticket_for t = record { number = t.ticket; id = t.id; version = t.version; log = t.log; scenario = t.scenario }

-- How the run of a task was made: without a base from nothing, in segments of at most its spacing; and with one out of
-- the base's run, of which the kept segments were reused and no more was worked than the work set.
abbrev pub IsMade : TaskView → Option BaseView → RunView → Option Work → Type 0
IsMade t None run None = IsShortCut (plan_of t.log t.scenario) t.spacing run.segments
IsMade t None run (Some work) = ⊥
IsMade t (Some b) run None = ⊥
IsMade t (Some b) run (Some work) = IsRejoined (plan_of b.run.log b.run.scenario) (plan_of t.log b.run.scenario) b.run.segments t.spacing run.segments work.handled work.reused
