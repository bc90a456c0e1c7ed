-- What callers see of a part.
use Rattle.std.specs.Prelude.{◌≡◌, ℕ, ℤ, ◌≤◌, List, All, length}
use Rattle.std.specs.Ordering.{int_cmp, nat_cmp}
use Rattle.std.specs.BTreeMap.{is_at}
use Rattle.std.specs.Map.{lookup, keys_of}
use Rattle.std.specs.List.Sorted.{IsStrictlySortedBy}
use Rattle.swf_text.specs.Limits.{entry_limit}
use Rattle.scenarios.specs.declared.placed.Placed.{Placed}
use Rattle.metrics.specs.declared.users.UserSums.{UserSums}
use Rattle.metrics.specs.declared.totals.Totals.{Totals}
use Rattle.metrics.specs.Placed.{IsPlaced}
use Rattle.metrics.specs.Totals.{totals}
use Rattle.metrics.specs.Users.{sums_of, sums_entry}
use Rattle.metrics.specs.Days.{busy_on, busy_entry}

-- Sums over all jobs, over those of each user by rising user, and the processor-seconds of each day by rising day.
pub record PartSums : Type 0 where
  pub totals : Totals
  pub users : List (ℤ × UserSums)
  pub days : List (ℕ × ℕ)

-- The part of some jobs: its sums are theirs, each user of theirs has one entry, and each day in which they take processor-seconds.
pub record IsPartOf (ps : List Placed) (v : PartSums) : Type 0 where
  pub totals : v.totals ≡ totals ps
  pub users_rise : IsStrictlySortedBy int_cmp (keys_of v.users)
  pub users : (u : ℤ) → lookup (is_at (int_cmp u)) v.users ≡ sums_entry (sums_of u ps)
  pub days_rise : IsStrictlySortedBy nat_cmp (keys_of v.days)
  pub days : (d : ℕ) → lookup (is_at (nat_cmp d)) v.days ≡ busy_entry (busy_on d ps)

-- jobs within the limits, no more than a log may have
pub record AreJobs (ps : List Placed) : Type 0 where
  pub each : All IsPlaced ps
  pub few : length ps ≤ entry_limit

-- a part is that of some jobs
pub record IsPart (v : PartSums) : Type 0 where
  pub jobs : List Placed
  pub limited : AreJobs jobs
  pub same : IsPartOf jobs v
