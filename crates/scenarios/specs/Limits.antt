-- The limits of a machine, of scenarios, of estimates and of seconds.
use Rattle.std.specs.Prelude.{ℕ, ◌^◌}

-- the most processors of a machine
abbrev pub procs_limit : ℕ
procs_limit = 16777216

-- the most scenarios of a list
abbrev pub scenarios_limit : ℕ
scenarios_limit = 64

-- the greatest factor on estimates, in thousandths
abbrev pub factor_limit : ℕ
factor_limit = 100000

-- the longest estimate and length, in seconds
abbrev pub estimate_limit : ℕ
estimate_limit = 100000000

-- all seconds come before this one
abbrev pub seconds_end : ℕ
seconds_end = 2 ^ 49
