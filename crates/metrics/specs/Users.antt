-- Sums by user.
use Rattle.std.specs.Prelude.{ℤ, ◌+◌, ◌^◌, ◌<◌, ◌==◌, Bool, List, All, filter, length, sum_by, Option, Some, None, if◌then◌else◌}
use Rattle.std.specs.Ordering.{int_cmp, int_eq}
use Rattle.std.specs.Map.{keys_of}
use Rattle.std.specs.List.Sorted.{IsStrictlySortedBy}
use Rattle.scenarios.specs.declared.placed.Placed.{Placed}
use Rattle.metrics.specs.declared.users.UserSums.{UserSums}
use Rattle.metrics.specs.Measures.{wait, slowdown, busy}
use Rattle.metrics.specs.Entries.{total_at}

abbrev pub no_sums : UserSums
no_sums = record { count = 0; wait = 0; slowdown = 0; busy = 0 }

-- the job is the user's
abbrev pub is_of : ℤ → Placed → Bool
is_of u p = int_eq u p.job.user

-- the sums over some jobs
abbrev pub sums : List Placed → UserSums
sums ps = record { count = length ps; wait = sum_by wait ps; slowdown = sum_by slowdown ps; busy = sum_by busy ps }

-- the sums over the jobs of a user
abbrev pub sums_of : ℤ → List Placed → UserSums
sums_of u ps = sums (filter (is_of u) ps)

-- what stands in a table for some sums: nothing, where they are over no job
abbrev pub sums_entry : UserSums → Option UserSums
sums_entry s = if s.count == 0 then None else Some s

-- the sums over one job
abbrev pub alone : Placed → UserSums
alone p = record { count = 1; wait = wait p; slowdown = slowdown p; busy = busy p }

-- the sums over the jobs of both
abbrev pub plus : UserSums → UserSums → UserSums
plus a b = record { count = a.count + b.count; wait = a.wait + b.wait; slowdown = a.slowdown + b.slowdown; busy = a.busy + b.busy }

-- the sums of both fit their types
pub record CanAdd (a b : UserSums) : Type 0 where
  pub count : a.count + b.count < 2 ^ 64
  pub wait : a.wait + b.wait < 2 ^ 128
  pub slowdown : a.slowdown + b.slowdown < 2 ^ 128
  pub busy : a.busy + b.busy < 2 ^ 128

-- what a list of entries adds up to for a user
abbrev pub user_total : ℤ → List (ℤ × UserSums) → UserSums
user_total u es = record { count = total_at (int_eq u) (λ s. s.count) es; wait = total_at (int_eq u) (λ s. s.wait) es; slowdown = total_at (int_eq u) (λ s. s.slowdown) es; busy = total_at (int_eq u) (λ s. s.busy) es }

-- entries by rising user, each with a job
pub record IsUserList (es : List (ℤ × UserSums)) : Type 0 where
  pub rise : IsStrictlySortedBy int_cmp (keys_of es)
  pub some : All (λ e. 0 < e.1.count) es
