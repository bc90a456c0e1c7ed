-- The fields of a cluster and of its two rooms, as contracts see them.
use Rattle.std.specs.Prelude.{◌≡◌, ℕ, ◌+◌, ◌-◌, ◌≤◌, min, sum_by, count_by, nat_eq}
use Rattle.std.specs.BinaryHeap.{heap_items, heap_len, heap_capacity, IsHeap}
use Rattle.blocks.specs.Rows.{flat}
use Rattle.cluster_state.specs.State.{State, ClusterView, IsSound, busy}
use Rattle.waiting_places.specs.Places.{waiting}
use Rattle.cluster_state.specs.Candidates.{IsKept, jobs_of, candidates_places}
use Rattle.cluster_state.specs.Ends.{by_number, end_of, falling, RisesByEnd}
use Rattle.cluster_state.specs.declared.ends.End.{End}
use Rattle.cluster_state.specs.Capacities.{QueueView, RunningView}
use Rattle.cluster_state.specs.declared.cluster.Cluster.TheInside.{Inside}
use Rattle.cluster_state.specs.declared.queue.Queue.TheInside as queue
use Rattle.cluster_state.specs.declared.running_set.RunningSet.TheInside as set

-- the order, the waiting jobs, and the places of the candidates
abbrev pub queue_of : {A : Type 0} → queue.Inside A → QueueView
queue_of q = record { order = q.order; jobs = waiting q.jobs.places; places = candidates_places q.order q.jobs.places (jobs_of (flat q.candidates.blocks)) }

-- what the fields of the queue keep: the candidates are those who wait
abbrev pub IsQueue : {A : Type 0} → queue.Inside A → Type 0
IsQueue q = IsKept q.order q.jobs.places (flat q.candidates.blocks)

-- the capacity for running jobs that is left: in the row by expected ends and in the heap of ends
abbrev pub spare_of : {A : Type 0} → set.Inside A → ℕ
spare_of s = min s.runners.spare (heap_capacity s.ends - heap_len s.ends)

-- the running jobs, rising by number, and this capacity
abbrev pub running_of : {A : Type 0} → set.Inside A → RunningView
running_of s = record { running = by_number (flat s.runners.blocks); spare = spare_of s }

-- what the fields of the running jobs keep: they have numbers of their own and stand by their expected ends, and a heap holds when each of
-- them ends: whatever is added up over these ends is added up over the running jobs
pub record IsRunningSet {A : Type 0} (s : set.Inside A) : Type 0 where
  pub once : (n : ℕ) → count_by (λ r. nat_eq r.job.number n) (flat s.runners.blocks) ≤ 1
  pub rises : RisesByEnd (flat s.runners.blocks)
  pub heap : IsHeap falling (heap_items s.ends)
  pub kept_ends : (f : End → ℕ) → sum_by (λ e. f e.0) (heap_items s.ends) ≡ sum_by (λ r. f (end_of r)) (flat s.runners.blocks)

-- the state that a cluster's fields hold
abbrev pub state_of : {A : Type 0} → Inside A → State
state_of c = record { procs = c.procs; order = c.queue.order; waiting = c.queue.jobs; running = c.running.running }

-- this state, the capacity for starts, and the places of the candidates
abbrev pub view_of : {A : Type 0} → Inside A → ClusterView
view_of c = record { state = state_of c; spare = c.running.spare; places = c.queue.places }

-- what a cluster's fields keep: each processor is free or held, and the state is sound
pub record IsCluster {A : Type 0} (c : Inside A) : Type 0 where
  pub accounted : c.free + busy c.running.running ≡ c.procs
  pub sound : IsSound (state_of c)
