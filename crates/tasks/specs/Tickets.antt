-- Tickets, and the runs that fit them.
use Rattle.std.specs.Prelude.{◌≡◌, ℕ, ◌==◌, ◌&&◌, Bool, List, Option, None, Some}
use Rattle.std.specs.List.{list_any}
use Rattle.swf_text.specs.Entry.{LogEntry}
use Rattle.scenarios.specs.PlanView.{PlanView}
use Rattle.scenarios.specs.Scenario.{ScenarioView}
use Rattle.checkpoints.specs.RunView.{RunView}

-- a standing ticket, with the log and the scenario that its run is to have
pub record TicketView : Type 0 where
  pub number : ℕ
  pub id : ℕ
  pub version : ℕ
  pub log : List LogEntry
  pub scenario : ScenarioView

abbrev pub has_number : ℕ → TicketView → Bool
has_number number t = t.number == number

-- a ticket of the scenario with this id stands at this version
abbrev pub is_out : ℕ → ℕ → List TicketView → Bool
is_out id v tickets = list_any (λ (t : TicketView). t.id == id && t.version == v) tickets

-- the run is of the plan's log and scenario
abbrev pub IsRunOf : PlanView → RunView → Type 0
IsRunOf plan run = (run.log ≡ plan.log) × (run.scenario ≡ plan.scenario)

-- the run has the log and the scenario of this ticket, if there is one
abbrev pub HasThoseOf : Option TicketView → RunView → Type 0
HasThoseOf None run = ⊥
HasThoseOf (Some t) run = (run.log ≡ t.log) × (run.scenario ≡ t.scenario)
