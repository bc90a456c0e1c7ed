-- The two rooms of a cluster, as contracts inside the crate see them: who waits, and who runs.
use Rattle.std.specs.Prelude.{◌≡◌, ℕ, List, ◌++◌, Option}
use Rattle.scenarios.specs.Job.{EffectiveJob}
use Rattle.scenarios.specs.declared.order.Order.{Order}
use Rattle.scenarios.specs.declared.placed.Placed.{Placed}
use Rattle.cluster_state.specs.State.{busy}
use Rattle.cluster_state.specs.Ends.{by_end}

-- The waiting jobs in order of arrival, the order in which the later ones are looked at, and the places of the candidates in which they are.
pub record QueueView : Type 0 where
  pub order : Order
  pub jobs : List EffectiveJob
  pub places : List (Option EffectiveJob)

-- The running jobs, with their starts, rising by number, and how many starts surely find capacity.
pub record RunningView : Type 0 where
  pub running : List Placed
  pub spare : ℕ

-- the running jobs by their expected ends, but for some first ones, which hold so many processors together
pub record IsRest (running : List Placed) (held : ℕ) (rest : List Placed) : Type 0 where
  pub passed : List Placed
  pub order : by_end running ≡ passed ++ rest
  pub hold : held ≡ busy passed
