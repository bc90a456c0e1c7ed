-- What a decision does with a cluster.
use Rattle.std.specs.Prelude.{◌≡◌, ℕ, ◌+◌, ◌≤◌, ◌<◌, List, [], ◌++◌, map, length, Option, None, Some, IfSome, IsSome}
use Rattle.scenarios.specs.Job.{EffectiveJob}
use Rattle.cluster_state.specs.State.{State, ClusterView, free}
use Rattle.easy_rule.specs.declared.shadow_time.Shadow.{Shadow}
use Rattle.easy_rule.specs.Rule.{next, shadow_of, state_after, starts_at}
use Rattle.easy_rule.specs.Pass.{most_starts, start_at, front, AreStarted}

-- These jobs are the first that start at second `now`, in order, and what is decided then completes the decision. Each start takes up one of
-- the capacity for starts at most, and leaves one less that can follow.
pub record IsBegun (old new : ClusterView) (now : ℕ) (jobs : List EffectiveJob) : Type 0 where
  pub state : state_after new.state now ≡ state_after old.state now
  pub starts : map (start_at now) jobs ++ starts_at new.state now ≡ starts_at old.state now
  pub started : AreStarted old.state now jobs new.state
  pub capacity : old.spare ≤ new.spare + length jobs
  pub few : length jobs + most_starts new.state ≤ most_starts old.state

-- These jobs are all that start at second `now`, in order. Each start takes up one of the capacity for starts at most.
pub record IsDecision (old new : ClusterView) (now : ℕ) (jobs : List EffectiveJob) : Type 0 where
  pub state : new.state ≡ state_after old.state now
  pub starts : map (start_at now) jobs ≡ starts_at old.state now
  pub started : AreStarted old.state now jobs new.state
  pub capacity : old.spare ≤ new.spare + length jobs
  pub few : length jobs ≤ most_starts old.state

-- no job has started, and none is answered; there is no less capacity for starts
pub record IsUndecided (old new : ClusterView) (jobs : List EffectiveJob) : Type 0 where
  pub state : new.state ≡ old.state
  pub none : jobs ≡ []
  pub capacity : old.spare ≤ new.spare

-- there is capacity for all that can start at once: in the cluster, and in a list that has so many places taken, of so many
pub record HasCapacity (c : ClusterView) (len capacity : ℕ) : Type 0 where
  pub spare : most_starts c.state ≤ c.spare
  pub list : len + most_starts c.state ≤ capacity

-- what is answered of a state's shadow: nothing else than it, and it is where there is one and a processor is free
pub record IsAnswered (s : State) (outcome : Option Shadow) : Type 0 where
  pub is : IfSome outcome (λ w. shadow_of s ≡ Some w)
  pub last_shadow : 0 < free s → IsSome (shadow_of s) → IsSome outcome

-- w is the state's shadow, and nobody of the first n waiting jobs may start at second `now`
pub record IsSettledFront (s : State) (now n : ℕ) (w : Shadow) : Type 0 where
  pub within : n ≤ length s.waiting
  pub settled : next (front s n) now ≡ None
  pub shadow : shadow_of s ≡ Some w
