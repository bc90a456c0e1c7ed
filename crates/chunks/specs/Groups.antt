-- A row of groups, each of which is a row of chunks.
use Rattle.std.specs.Prelude.{ℕ, ◌≤◌, ◌<◌, ◌+◌, List, length}
use Rattle.chunks.specs.Chunks.{AreSized, chunk_of, flat, start}

module _ {X : Type 0} where
  -- the chunks of all groups, one group after another
  abbrev pub chunks_in : List (List (List X)) → List (List X)
  chunks_in groups = flat groups

  -- the number of a group's chunk among the chunks of all groups
  abbrev pub chunk_number : ℕ → ℕ → List (List (List X)) → ℕ
  chunk_number group chunk groups = start group groups + chunk

  -- the elements of a group's chunk; none behind the last one
  abbrev pub chunk_at : ℕ → ℕ → List (List (List X)) → List X
  chunk_at group chunk groups = chunk_of (chunks_in groups) (chunk_number group chunk groups)

  -- the place among all elements of a place in a group's chunk
  abbrev pub place_at : ℕ → ℕ → ℕ → List (List (List X)) → ℕ
  place_at group chunk at groups = start (chunk_number group chunk groups) (chunks_in groups) + at

  -- each group has 1 to 256 chunks, and each chunk 1 to 256 elements
  pub record AreGrouped (row : List (List (List X))) : Type 0 where
    pub groups : AreSized row
    pub chunks : AreSized (chunks_in row)

  -- a chunk of a group, or the place of another behind all groups
  pub record IsSpot (g c : ℕ) (row : List (List (List X))) : Type 0 where
    pub group : g ≤ length row
    pub chunk : c ≤ length (chunk_of row g)
    pub there : g < length row → c < length (chunk_of row g)

  -- the place of an element: a place in a group's chunk at which one stands
  pub record IsElement (g c at : ℕ) (row : List (List (List X))) : Type 0 where
    pub spot : IsSpot g c row
    pub inside : at < length (chunk_at g c row)
