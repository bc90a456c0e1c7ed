-- A job that arrives while no other does, and starts at once.
use Rattle.std.specs.Prelude.{◌≡◌, ℕ, ◌≤◌, true, [], Option, Some, None}
use Rattle.scenarios.specs.Job.{EffectiveJob}
use Rattle.cluster_state.specs.State.{State, ClusterView, arrived, free}
use Rattle.easy_rule.specs.declared.shadow_time.Shadow.{Shadow}
use Rattle.easy_rule.specs.Rule.{may_backfill}

-- what is known of a state lets a job that arrives start at once: where no shadow is known, that nobody waits and it fits; otherwise, that it
-- may start in the place of the head
abbrev pub StartsAtOnce : State → ℕ → Option Shadow → EffectiveJob → Type 0
StartsAtOnce s now None job = (s.waiting ≡ []) × (job.size ≤ free s)
StartsAtOnce s now (Some w) job = may_backfill now (free s) w job ≡ true

-- a cluster once a job has joined its queue
abbrev pub with_arrival : ClusterView → EffectiveJob → ClusterView
with_arrival c job = record { state = arrived c.state job; spare = c.spare; places = c.places }
