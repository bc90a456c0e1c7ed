-- The jobs that sums are made over.
use Rattle.std.specs.Prelude.{◌≤◌, ◌<◌, List, All, length}
use Rattle.swf_text.specs.Limits.{entry_limit}
use Rattle.scenarios.specs.Limits.{seconds_end, procs_limit, estimate_limit}
use Rattle.scenarios.specs.declared.placed.Placed.{Placed}

-- the start of a job may be this one: it is not before its submission, and within the limit on seconds
pub record CanStart (p : Placed) : Type 0 where
  pub after_submit : p.job.submit ≤ p.start
  pub in_time : p.start < seconds_end

-- jobs with such starts, no more than a log may have
pub record CanSum (ps : List Placed) : Type 0 where
  pub each : All CanStart ps
  pub few : length ps ≤ entry_limit

-- what is true of a job with such a start
pub record IsPlaced (p : Placed) : Type 0 where
  pub takes_some : 1 ≤ p.job.size
  pub fits_some : p.job.size ≤ procs_limit
  pub lasts : 1 ≤ p.job.length
  pub within_limit : p.job.length ≤ estimate_limit
  pub after_submit : p.job.submit ≤ p.start
  pub in_time : p.start < seconds_end
