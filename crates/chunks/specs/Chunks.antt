-- A long list in chunks.
use Rattle.std.specs.Prelude.{◌≡◌, ◌⊎◌, ℕ, ◌≤◌, ◌+◌, ◌-◌, ◌==◌, ◌&&◌, ◌||◌, nat_lt, nat_le, not, Bool, false, Option, Some, None, if◌then◌else◌, List, [], ◌∷◌, length, take, slice_get, slice_index_or}
use Rattle.std.specs.List.{flat_map, position_or_len}

module _ {X : Type 0} where
  -- the elements of all chunks, one chunk after another
  abbrev pub flat : List (List X) → List X
  flat chunks = flat_map (λ chunk. chunk) chunks

  -- a chunk has 1 to 256 elements
  pub record IsSized (chunk : List X) : Type 0 where
    pub low : 1 ≤ length chunk
    pub high : length chunk ≤ 256

  -- and so has each of these
  abbrev pub AreSized : List (List X) → Type 0
  AreSized [] = Unit {0}
  AreSized (chunk ∷ chunks) = IsSized chunk × AreSized chunks

  -- elements that come before those of these chunks: there are some, unless there is no chunk
  abbrev pub IsFront : List X → List (List X) → Type 0
  IsFront [] [] = Unit {0}
  IsFront [] (chunk ∷ chunks) = ⊥
  IsFront (x ∷ xs) chunks = Unit {0}

  -- how many elements the chunks before this one have
  abbrev pub start : ℕ → List (List X) → ℕ
  start chunk chunks = length (flat (take chunk chunks))

  -- the elements of a chunk; none past the last one
  abbrev pub chunk_of : List (List X) → ℕ → List X
  chunk_of chunks chunk = slice_index_or chunks chunk []

  -- how many elements the chunk has in which this place lies; behind the last element it is the last chunk
  abbrev pub touched : ℕ → List (List X) → ℕ
  touched place [] = 0
  touched place (chunk ∷ []) = length chunk
  touched place (chunk ∷ next ∷ later) = if nat_lt place (length chunk) then length chunk else touched (place - length chunk) (next ∷ later)

  -- each chunk but the last has 256 elements
  abbrev pub AreFull : List (List X) → Type 0
  AreFull [] = Unit {0}
  AreFull (chunk ∷ []) = Unit {0}
  AreFull (chunk ∷ next ∷ later) = (length chunk ≡ 256) × AreFull (next ∷ later)

  -- whether an element is there and passes
  abbrev pub passes : (X → Bool) → Option X → Bool
  passes test None = false
  passes test (Some x) = test x

  -- whether the last element of a chunk passes
  abbrev pub ends_by : (X → Bool) → List X → Bool
  ends_by test chunk = passes test (slice_get chunk (length chunk - 1))

-- the element stands before one with these two numbers: by its first number, and of one first number by its second
abbrev pub stands : {X : Type 0} → (X → ℕ) → (X → ℕ) → ℕ → ℕ → X → Bool
stands major minor a b x = nat_lt (major x) a || (major x == a && nat_lt (minor x) b)

-- the place of the first element that doesn't stand before one with these two numbers; past the last where there is none
abbrev pub place_in : {X : Type 0} → (X → ℕ) → (X → ℕ) → ℕ → ℕ → List X → ℕ
place_in major minor a b xs = position_or_len (λ x. not (stands major minor a b x)) xs

-- how many elements move to another chunk when a chunk of this length is put back
abbrev pub moved : ℕ → ℕ
moved n = if nat_le n 256 then 0 else n - 128

-- how many elements are copied or moved to another chunk when one joins at this place
abbrev pub joining : {X : Type 0} → ℕ → List (List X) → ℕ
joining place chunks = touched place chunks + moved (touched place chunks + 1)

-- a count has stayed as it was, where an element is exchanged in its place, or has gone up by these many, where they
-- are copied: which of the two a list does depends on who shares its memory, and that is no part of its value
abbrev pub CountsNoneOr : ℕ → ℕ → ℕ → Type 0
CountsNoneOr many old new = (new ≡ old) ⊎ (new ≡ old + many)
