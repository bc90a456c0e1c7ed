-- The text of a log: its lines, and what they hold.
use Rattle.std.specs.Prelude.{ℕ, List, [], ◌∷◌, length, Bool, ◌==◌, if◌then◌else◌}
use Rattle.std.specs.List.{slice_split}
use Rattle.swf_text.specs.Entry.{LogEntry}

-- the comments and the entries of a log, each in the order in which they stand
pub record LogText : Type 0 where
  pub comments : List (List ℕ)
  pub entries : List LogEntry

-- the text without a line
abbrev pub empty : LogText
empty = record { comments = []; entries = [] }

-- ---- lines

-- a line feed, which ends a line
abbrev pub is_feed : ℕ → Bool
is_feed byte = byte == 10

-- what follows the last line feed is a line only where it has a byte
abbrev pub without_empty_end : List (List ℕ) → List (List ℕ)
without_empty_end [] = []
without_empty_end (part ∷ []) = if length part == 0 then [] else part ∷ []
without_empty_end (part ∷ next ∷ parts) = part ∷ without_empty_end (next ∷ parts)

-- the lines of the bytes, without their line feeds
abbrev pub lines : List ℕ → List (List ℕ)
lines bytes = without_empty_end (slice_split is_feed bytes)
