-- What a log is simulated under.
use Rattle.std.specs.Prelude.{ℕ, Bool, ◌≤◌, ◌&&◌, nat_le, if◌then◌else◌, Option, Some, None}
use Rattle.scenarios.specs.Limits.{procs_limit, factor_limit}
use Rattle.scenarios.specs.declared.order.Order.{Order}
use Rattle.scenarios.specs.declared.order.Order.TheVariants.{Arrival}

-- A machine's processors, what estimates are multiplied by in thousandths, and the order of backfills.
pub record ScenarioView : Type 0 where
  pub procs : ℕ
  pub factor : ℕ
  pub order : Order

-- the limits of a scenario
pub record IsScenario (scenario : ScenarioView) : Type 0 where
  pub some_procs : 1 ≤ scenario.procs
  pub procs_fit : scenario.procs ≤ procs_limit
  pub some_factor : 1 ≤ scenario.factor
  pub factor_fits : scenario.factor ≤ factor_limit

abbrev pub are_within : ℕ → ℕ → Bool
are_within procs factor = nat_le 1 procs && nat_le procs procs_limit && nat_le 1 factor && nat_le factor factor_limit

-- the scenario of this machine and factor, with backfills in order of arrival; none outside the limits
abbrev pub scenario_with : ℕ → ℕ → Option ScenarioView
scenario_with procs factor = if are_within procs factor then Some (record { procs = procs; factor = factor; order = Arrival }) else None
