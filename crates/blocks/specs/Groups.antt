-- Groups of 64 blocks that follow each other.
use Rattle.std.specs.Prelude.{◌≡◌, ℕ, ◌≤◌, ◌<◌, ◌+◌, ◌*◌, ◌^◌, List, length, slice_index_or, All}
use Rattle.blocks.specs.Rows.{block_of, flat, start, weight_to}
use Rattle.blocks.specs.declared.groups.Group.{Group}

module _ {X : Type 0} (weigh : X → ℕ) (blocks : List (List X)) where
  -- the 64 blocks from this one on are there; they have so many items together, which weigh so much, and none of which weighs less than the bound
  pub record IsGroup (first : ℕ) (group : Group) : Type 0 where
    pub there : first + 64 ≤ length blocks
    pub count : start first blocks + group.items ≡ start (first + 64) blocks
    pub sum : weight_to weigh first blocks + group.weight ≡ weight_to weigh (first + 64) blocks
    pub bound : (block : ℕ) → first ≤ block → block < first + 64 → All (λ x. group.least ≤ weigh x) (block_of blocks block)

  -- these are the groups of the first 64 blocks, of the next 64, and so on; blocks behind them need not be in a group
  abbrev pub AreGroups : List Group → Type 0
  AreGroups groups = (number : ℕ) (other : Group) → number < length groups → IsGroup (64 * number) (slice_index_or groups number other)

  -- blocks and items that can be counted, and what is known of groups of the former
  pub record AreGrouped (groups : List Group) : Type 0 where
    pub short : length blocks ≤ 2 ^ 40
    pub few : length (flat blocks) < 2 ^ 64
    pub known : AreGroups groups
