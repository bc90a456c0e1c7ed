-- What the numbers of a state tell of it, and what the order of expected ends is.
use Rattle.std.specs.Prelude.{◌≡◌, ℕ, ◌≤◌, List, IsPermutation}
use Rattle.scenarios.specs.Plan.{Plan, job_numbered}
use Rattle.scenarios.specs.declared.placed.Placed.{Placed}
use Rattle.cluster_state.specs.State.{State, IsSound, busy}
use Rattle.cluster_state.specs.Ends.{by_end, RisesByEnd}
use Rattle.cluster_state.specs.Snapshot.{numbers_of, standing, restored, Fits, IsOfPlan}

-- a state of the plan's jobs fits the plan by its numbers, and these give it back
abbrev pub NumbersGiveTheStateBack : Type 0
NumbersGiveTheStateBack =
    (s : State) (plan : Plan) → IsOfPlan s plan → busy s.running ≤ s.procs
    → Fits (numbers_of s) plan × (restored (numbers_of s) plan ≡ s)

-- two states of one machine and order, with the same numbers, are the same where these numbers have the same jobs in both plans
abbrev pub EqualNumbersAreEqualStates : Type 0
EqualNumbersAreEqualStates =
    (s t : State) (p q : Plan) → IsOfPlan s p → IsOfPlan t q → p.procs ≡ q.procs → p.order ≡ q.order
    → numbers_of s ≡ numbers_of t → ((n : ℕ) → 1 ≤ standing (numbers_of s) n → job_numbered p.jobs n ≡ job_numbered q.jobs n)
    → s ≡ t

-- the running jobs of a sound state, by their expected ends: each is expected to end sooner than all those behind it
abbrev pub ExpectedEndsRise : Type 0
ExpectedEndsRise = (s : State) → IsSound s → RisesByEnd (by_end s.running)

-- running jobs by their expected ends are these jobs in another order: each stands there once
abbrev pub ExpectedEndsRearrange : Type 0
ExpectedEndsRearrange = (rs : List Placed) → IsPermutation rs (by_end rs)
