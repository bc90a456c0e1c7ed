-- Processor-seconds by day. A part keeps two sums of which they are the difference, up to the jobs' starts and up to their ends, each by how much
-- it falls behind which days.
use Rattle.std.specs.Prelude.{◌≡◌, ℕ, zero, suc, ◌+◌, ◌-◌, ◌*◌, ◌<◌, ◌^◌, ◌==◌, min, max, nat_le, List, [], ◌∷◌, ◌++◌, All, sum_by, Option, Some, None, if◌then◌else◌}
use Rattle.std.specs.Ordering.{nat_cmp}
use Rattle.std.specs.BTreeMap.{is_at}
use Rattle.std.specs.Map.{keys_of}
use Rattle.std.specs.List.Sorted.{IsStrictlySortedBy}
use Rattle.scenarios.specs.declared.placed.Placed.{Placed}
use Rattle.scenarios.specs.Placed.{real_end}
use Rattle.metrics.specs.Measures.{busy_in}
use Rattle.metrics.specs.Entries.{total_at}

-- the processor-seconds that some jobs take in the day
abbrev pub busy_on : ℕ → List Placed → ℕ
busy_on d ps = sum_by (busy_in d) ps

-- what stands in a table for some processor-seconds: nothing, where there are none
abbrev pub busy_entry : ℕ → Option ℕ
busy_entry n = if n == 0 then None else Some n

-- how many of the seconds before second t lie in the day
abbrev pub before_in : ℕ → ℕ → ℕ
before_in d t = min t (86400 * (d + 1)) - 86400 * d

-- the day's processor-seconds before a second of each job's, where the job's processors were taken from second 0 on
abbrev pub before_on : (Placed → ℕ) → ℕ → List Placed → ℕ
before_on second d ps = sum_by (λ p. p.job.size * before_in d (second p)) ps

-- what a list of entries has for the day
abbrev pub day_total : ℕ → List (ℕ × ℕ) → ℕ
day_total d es = total_at (is_at (nat_cmp d)) (λ n. n) es

-- what it has for the day and later ones
abbrev pub from_day : ℕ → List (ℕ × ℕ) → ℕ
from_day d es = total_at (nat_le d) (λ n. n) es

-- entries by rising day
pub record IsFalls (es : List (ℕ × ℕ)) : Type 0 where
  pub rise : IsStrictlySortedBy nat_cmp (keys_of es)
  pub near : All (λ e. e.0 < 2 ^ 40) es

-- the falls of some jobs: from each day on they add up to the day's processor-seconds before their starts, and before their ends
pub record AreFallsOf (ps : List Placed) (starts ends : List (ℕ × ℕ)) : Type 0 where
  pub starts_list : IsFalls starts
  pub ends_list : IsFalls ends
  pub at_starts : (d : ℕ) → from_day d starts ≡ before_on (λ p. p.start) d ps
  pub at_ends : (d : ℕ) → from_day d ends ≡ before_on real_end d ps

-- the days below n of which a number is above 0, each with it
abbrev pub days_below : (ℕ → ℕ) → ℕ → List (ℕ × ℕ)
days_below f zero = []
days_below f (suc n) = if f n == 0 then days_below f n else days_below f n ++ (n, f n) ∷ []

-- the day behind all entries
abbrev pub end_of : List (ℕ × ℕ) → ℕ
end_of [] = 0
end_of (e ∷ es) = max (e.0 + 1) (end_of es)

-- the days in which something is taken, by the falls up to starts and up to ends
abbrev pub day_list : List (ℕ × ℕ) → List (ℕ × ℕ) → List (ℕ × ℕ)
day_list starts ends = days_below (λ d. from_day d ends - from_day d starts) (end_of ends)
