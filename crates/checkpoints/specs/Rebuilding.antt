-- New nodes that are put together of old ones and new ones.
use Rattle.std.specs.Prelude.{◌≤◌, ◌<◌, ◌^◌, ℕ, List, take, drop, length, Option}
use Rattle.metrics.specs.Part.{PartSums}
use Rattle.checkpoints.specs.Nodes.{NodeView, AreNodesOf, ArePartsFrom}

-- Some old nodes are left, whose parts stand from the old place `first` on. The nodes so far have the first `count` of
-- the new parts; what comes from the old parts that are left is looked for from the new place `place` on.
pub record IsRebuilding (news : List PartSums) (places : List (Option ℕ)) (left is : List NodeView) (count place first : ℕ) : Type 0 where
  pub olds : List PartSums
  pub from : ArePartsFrom olds news places
  pub old : AreNodesOf (drop first olds) left
  pub first_within : first ≤ length olds
  pub few : length olds < 2 ^ 64
  pub nodes : AreNodesOf (take count news) is
  pub count_within : count ≤ place
  pub place_within : place ≤ length news
