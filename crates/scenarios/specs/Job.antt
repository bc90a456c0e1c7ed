-- A job as the simulation sees it.
use Rattle.std.specs.Prelude.{ℕ, ℤ, Bool, ◌≤◌}
use Rattle.swf_text.specs.Limits.{whole_limit}
use Rattle.scenarios.specs.Limits.{procs_limit, estimate_limit}

-- An entry of a log under a scenario. Times are whole seconds, the size is a number of processors.
-- From its start on the job takes its processors for its length; it is expected to take them for its estimate.
pub record EffectiveJob : Type 0 where
  pub number : ℕ
  pub submit : ℕ
  pub size : ℕ
  pub estimate : ℕ
  pub length : ℕ
  pub user : ℤ
  pub killed : Bool

-- the limits that each effective job is within
pub record IsWithinLimits (job : EffectiveJob) : Type 0 where
  pub takes_some : 1 ≤ job.size
  pub fits_some : job.size ≤ procs_limit
  pub lasts : 1 ≤ job.length
  pub within_estimate : job.length ≤ job.estimate
  pub within_limit : job.estimate ≤ estimate_limit
  pub submitted : job.submit ≤ whole_limit
  pub numbered : job.number ≤ whole_limit
