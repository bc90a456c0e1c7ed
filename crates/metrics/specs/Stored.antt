-- Sums by user as a part stores them.
use Rattle.std.specs.Prelude.{ℤ}
use Rattle.metrics.specs.declared.stored.ShortSums.{ShortSums}
use Rattle.metrics.specs.declared.users.UserSums.{UserSums}

-- the sums that short ones stand for
abbrev pub long : ShortSums → UserSums
long s = record { count = s.count; wait = s.wait; slowdown = s.slowdown; busy = s.busy }

-- the entry that a short one stands for
abbrev pub long_of : ℤ × ShortSums → ℤ × UserSums
long_of e = (e.0, long e.1)
