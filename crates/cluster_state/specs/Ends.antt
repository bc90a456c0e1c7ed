-- The order in which running jobs are expected to end.
use Rattle.std.specs.Prelude.{◌≡◌, ℕ, ◌+◌, ◌<◌, ◌⊎◌, ◌||◌, ◌&&◌, ◌==◌, Bool, nat_lt, if◌then◌else◌, List, [], ◌∷◌, ◌++◌, All}
use Rattle.std.specs.Ordering.{nat_cmp, ordering_then}
use Rattle.std.specs.declared.cmp.Ordering.{Ordering}
use Rattle.std.specs.declared.cmp.Reverse.{Reverse}
use Rattle.scenarios.specs.declared.placed.Placed.{Placed}
use Rattle.scenarios.specs.Placed.{expected_end, real_end}
use Rattle.cluster_state.specs.declared.ends.End.{End}
use Rattle.cluster_state.specs.State.{State, placed, free, busy}

-- a is expected to end earlier than b, or at the same second and has the smaller number
abbrev pub is_sooner : Placed → Placed → Bool
is_sooner a b = nat_lt (expected_end a) (expected_end b) || (expected_end a == expected_end b && nat_lt a.job.number b.job.number)

-- one more running job among others, before the first that it is sooner than
abbrev pub entered : Placed → List Placed → List Placed
entered r [] = r ∷ []
entered r (x ∷ xs) = if is_sooner r x then r ∷ x ∷ xs else x ∷ entered r xs

-- running jobs in the order of (start + estimate, number)
abbrev pub by_end : List Placed → List Placed
by_end [] = []
by_end (r ∷ rs) = entered r (by_end rs)

-- a is expected to end earlier than b, or at the same second and has the smaller number, as a fact
abbrev pub EndsSooner : Placed → Placed → Type 0
EndsSooner a b = (expected_end a < expected_end b) ⊎ ((expected_end a ≡ expected_end b) × (a.job.number < b.job.number))

-- each is expected to end sooner than all those behind it
abbrev pub RisesByEnd : List Placed → Type 0
RisesByEnd [] = Unit {0}
RisesByEnd (r ∷ rs) = All (EndsSooner r) rs × RisesByEnd rs

-- running jobs in the order of their numbers
abbrev pub by_number : List Placed → List Placed
by_number [] = []
by_number (r ∷ rs) = placed r (by_number rs)

-- when a running job ends, and what it is found by
abbrev pub end_of : Placed → End
end_of r = record { end = real_end r; expected_end = expected_end r; number = r.job.number }

-- the running jobs by their expected ends, but for some first ones, even with which ended fewer processors are free than are needed: so many
pub record IsPast (s : State) (need capacity : ℕ) (rest : List Placed) : Type 0 where
  pub passed : List Placed
  pub order : by_end s.running ≡ passed ++ rest
  pub gives : capacity ≡ free s + busy passed
  pub short : capacity < need

-- the most running jobs of a block of the row: so many are left to walk over, at most, until enough processors are free
abbrev pub block_limit : ℕ
block_limit = 128

-- the order in which a heap of ends keeps them: the first to end on top
abbrev pub falling : Reverse End → Reverse End → Ordering
falling a b = ordering_then (nat_cmp b.0.end a.0.end) (ordering_then (nat_cmp b.0.expected_end a.0.expected_end) (nat_cmp b.0.number a.0.number))
