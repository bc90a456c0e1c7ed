-- Sums as a part keeps them.
use Rattle.std.specs.Prelude.{◌≡◌, ℕ, ℤ, List}
use Rattle.scenarios.specs.declared.placed.Placed.{Placed}
use Rattle.metrics.specs.declared.users.UserSums.{UserSums}
use Rattle.metrics.specs.declared.totals.Totals.{Totals}
use Rattle.metrics.specs.Totals.{totals}
use Rattle.metrics.specs.Users.{sums_of, user_total, IsUserList}
use Rattle.metrics.specs.Days.{AreFallsOf, day_list}
use Rattle.metrics.specs.Part.{PartSums, AreJobs}

-- sums over all jobs and by user, and the falls up to starts and up to ends
pub record Tally : Type 0 where
  pub totals : Totals
  pub users : List (ℤ × UserSums)
  pub starts : List (ℕ × ℕ)
  pub ends : List (ℕ × ℕ)

-- what callers see of them
abbrev pub sums_in : Tally → PartSums
sums_in t = record { totals = t.totals; users = t.users; days = day_list t.starts t.ends }

-- the sums of some jobs: at each user they add up to theirs, and so do the falls
pub record IsTallyOf (ps : List Placed) (t : Tally) : Type 0 where
  pub totals : t.totals ≡ totals ps
  pub user_list : IsUserList t.users
  pub users : (u : ℤ) → user_total u t.users ≡ sums_of u ps
  pub days : AreFallsOf ps t.starts t.ends

-- sums of some jobs within the limits
pub record IsTally (t : Tally) : Type 0 where
  pub jobs : List Placed
  pub limited : AreJobs jobs
  pub same : IsTallyOf jobs t

-- falls of some jobs within the limits
pub record AreFalls (starts ends : List (ℕ × ℕ)) : Type 0 where
  pub jobs : List Placed
  pub limited : AreJobs jobs
  pub same : AreFallsOf jobs starts ends
