-- A sorted row in blocks.
use Rattle.std.specs.Prelude.{◌≡◌, ℕ, ◌≤◌, ◌<◌, ◌+◌, ◌-◌, ◌^◌, ◌*◌, ◌==◌, ◌&&◌, ◌||◌, nat_lt, not, Bool, true, false, Option, Some, None, if◌then◌else◌, List, [], ◌∷◌, ◌++◌, length, take, drop, slice_get, slice_index_or, slice_set, sum_by, All, Vec, vec_capacity}
use Rattle.std.specs.List.{flat_map, insert, position_or_len, remove}

-- What callers see of a row: its blocks, each with its items, and how many insertions surely find capacity.
pub record BlocksView (X : Type 0) : Type 0 where
  pub blocks : List (List X)
  pub spare : ℕ

module _ {X : Type 0} where
  -- the items of all blocks, one block after another
  abbrev pub flat : List (List X) → List X
  flat blocks = flat_map (λ block. block) blocks

  -- a block in use has 1 to 128 items
  pub record IsFilled (block : List X) : Type 0 where
    pub low : 1 ≤ length block
    pub high : length block ≤ 128

  -- and so has each of these
  abbrev pub AreFilled : List (List X) → Type 0
  AreFilled [] = Unit {0}
  AreFilled (block ∷ blocks) = IsFilled block × AreFilled blocks

  -- items that come before those of these blocks: there are some, unless there is no block
  abbrev pub IsFront : List X → List (List X) → Type 0
  IsFront [] [] = Unit {0}
  IsFront [] (block ∷ blocks) = ⊥
  IsFront (x ∷ xs) blocks = Unit {0}

  -- the items of a block; none past the last one
  abbrev pub block_of : List (List X) → ℕ → List X
  block_of blocks block = slice_index_or blocks block []

  -- how many items the blocks before this one have
  abbrev pub start : ℕ → List (List X) → ℕ
  start block blocks = length (flat (take block blocks))

  -- what the items of the blocks before this one weigh together
  abbrev pub weight_to : (X → ℕ) → ℕ → List (List X) → ℕ
  weight_to weigh block blocks = sum_by weigh (flat (take block blocks))

  -- an item is there and passes
  abbrev pub passes : (X → Bool) → Option X → Bool
  passes test None = false
  passes test (Some x) = test x

  -- the last item of a block passes
  abbrev pub ends_by : (X → Bool) → List X → Bool
  ends_by test block = passes test (slice_get block (length block - 1))

  -- this is the first number of the last item, if there is one
  abbrev pub EndsAt : (X → ℕ) → ℕ → List X → Type 0
  EndsAt major last items = (x : X) → slice_get items (length items - 1) ≡ Some x → last ≡ major x

  -- by how many items a block has more than it has after a cut and one insertion
  abbrev pub over_of : List X → ℕ
  over_of block = length block - 65

  -- the blocks with one that is cut behind its 64th item
  abbrev pub cut_at : ℕ → List (List X) → List (List X)
  cut_at block blocks = insert (slice_set blocks block (take 64 (block_of blocks block))) (block + 1) (drop 64 (block_of blocks block))

  -- the blocks with one that has taken in the items of the next
  abbrev pub joined_at : ℕ → List (List X) → List (List X)
  joined_at block blocks = slice_set (remove blocks (block + 1)) block (block_of blocks block ++ block_of blocks (block + 1))

  -- the list without the first that passes
  abbrev pub without_first : (X → Bool) → List X → List X
  without_first test [] = []
  without_first test (x ∷ xs) = if test x then xs else x ∷ without_first test xs

-- how many insertions surely find capacity, by the numbers of blocks in use and of empty ones, and by how many items are over: where no
-- block is in use, the first insertion takes an empty one and cuts none
abbrev pub capacity_of : ℕ → ℕ → ℕ → ℕ
capacity_of used empty over = 64 * empty - 63 * (1 - used) - over

-- what the fields of a row keep: blocks in use and empty ones, by how many items the former are over, how many items there are, and
-- capacity for each block both among those in use and among the empty ones
pub record IsRow {X : Type 0} (used empty : List (List X)) (over len used_capacity empty_capacity : ℕ) : Type 0 where
  pub filled : AreFilled used
  pub cleared : All (λ block. block ≡ []) empty
  pub overs : over ≡ sum_by over_of used
  pub owed : over ≤ 64 * length empty
  pub all : len ≡ length (flat used)
  pub few : length used + length empty ≤ 2 ^ 40
  pub usable : length used + length empty ≤ used_capacity
  pub returnable : length used + length empty ≤ empty_capacity

-- a list that may have grown: it has the items that it had, and no less capacity
pub record HasGrown {X A : Type 0} (old new : Vec X A) : Type 0 where
  pub items : new.items ≡ old.items
  pub capacity : vec_capacity old ≤ vec_capacity new

-- so many blocks find capacity: among those in use, among the empty ones, and in their groups of 64
pub record HasCapacityFor (blocks used_capacity empty_capacity groups_capacity : ℕ) : Type 0 where
  pub usable : blocks ≤ used_capacity
  pub returnable : blocks ≤ empty_capacity
  pub grouped : blocks ≤ 64 * groups_capacity + 63

-- what the fields of a block keep: what its items weigh together, what none of them weighs less than, and their capacity
pub record IsBlock {X : Type 0} (weigh : X → ℕ) (weight least capacity : ℕ) (items : List X) : Type 0 where
  pub sum : weight ≡ sum_by weigh items
  pub bound : All (λ x. least ≤ weigh x) items
  pub fit : All (λ x. weigh x < 2 ^ 64) items
  pub most : length items ≤ 128
  pub wide : 128 ≤ capacity

module _ {X : Type 0} (major minor : X → ℕ) where
  -- the item stands before one with these two numbers: by its first number, and of one first number by its second
  abbrev pub stands : ℕ → ℕ → X → Bool
  stands a b x = nat_lt (major x) a || (major x == a && nat_lt (minor x) b)

  -- the item has these two numbers
  abbrev pub is_at : ℕ → ℕ → X → Bool
  is_at a b x = major x == a && minor x == b

  -- the place of the first item that doesn't stand before one with these two numbers; past the last where there is none
  abbrev pub place_in : ℕ → ℕ → List X → ℕ
  place_in a b xs = position_or_len (λ x. not (stands a b x)) xs

  -- of these, so many first ones stand before one with these two numbers, and no others
  pub record AreBefore (a b : ℕ) (xs : List X) (count : ℕ) : Type 0 where
    pub front : (place : ℕ) → place < count → passes (stands a b) (slice_get xs place) ≡ true
    pub rest : (place : ℕ) → count ≤ place → passes (stands a b) (slice_get xs place) ≡ false

  -- one item more, before the first that doesn't stand before it
  abbrev pub entered : X → List X → List X
  entered item [] = item ∷ []
  entered item (x ∷ xs) = if stands (major item) (minor item) x then x ∷ entered item xs else item ∷ x ∷ xs

  -- none stands before one in front of it
  abbrev pub Rises : List X → Type 0
  Rises [] = Unit {0}
  Rises (x ∷ xs) = All (λ y. stands (major x) (minor x) y ≡ false) xs × Rises xs
