-- The measures of a job that was started. Times are whole seconds.
use Rattle.std.specs.Prelude.{ℕ, ◌+◌, ◌-◌, ◌*◌, ◌/◌, min, max}
use Rattle.scenarios.specs.Placed.{real_end}
use Rattle.scenarios.specs.declared.placed.Placed.{Placed}

-- the seconds from its submission to its start
abbrev pub wait : Placed → ℕ
wait p = p.start - p.job.submit

-- the bounded slowdown, in thousandths: at least 1000, and jobs under ten seconds count as ten
abbrev pub slowdown : Placed → ℕ
slowdown p = max 1000 ((wait p + p.job.length) * 1000 / max p.job.length 10)

-- the processor-seconds that it takes
abbrev pub busy : Placed → ℕ
busy p = p.job.size * p.job.length

-- how many of its seconds lie in the day, which holds the seconds from 86400 d to before 86400 (d + 1)
abbrev pub overlap : ℕ → Placed → ℕ
overlap d p = min (real_end p) (86400 * (d + 1)) - max p.start (86400 * d)

-- the processor-seconds that it takes in the day
abbrev pub busy_in : ℕ → Placed → ℕ
busy_in d p = p.job.size * overlap d p
