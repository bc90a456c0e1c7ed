-- The seconds at which a job that was started ends.
use Rattle.std.specs.Prelude.{ℕ, ◌+◌}
use Rattle.scenarios.specs.declared.placed.Placed.{Placed}

-- the second at which it ends
abbrev pub real_end : Placed → ℕ
real_end p = p.start + p.job.length

-- the second by which it has surely ended
abbrev pub expected_end : Placed → ℕ
expected_end p = p.start + p.job.estimate
