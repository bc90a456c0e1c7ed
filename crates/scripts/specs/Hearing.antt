-- How a conversation's lines are read, one at a time.
use Rattle.std.specs.Prelude.{◌≡◌, ℕ, ◌<◌, ◌≤◌, List, [], ◌∷◌, ◌++◌, length, take, Bool, true, false, if◌then◌else◌, Option, Some, IfSome, Result, Ok, Err}
use Rattle.std.specs.List.{All}
use Rattle.std.specs.Io.KnownBytes.{Consumes, Keeps}
use Rattle.swf_text.specs.Limits.{line_limit}
use Rattle.swf_text.specs.Text.{is_feed}
use Rattle.scripts.specs.declared.hearing.LineEnd.{LineEnd}
use Rattle.scripts.specs.declared.hearing.LineEnd.TheVariants.{Feed, Input, Open}

-- no line feed is among the bytes
abbrev pub HasNoFeed : List ℕ → Type 0
HasNoFeed bytes = All (λ b. is_feed b ≡ false) bytes

-- These bytes of a line were read: with them its line feed, or at the end of the input all that was left.
abbrev pub Reads : Option (List ℕ) → Option (List ℕ) → List ℕ → LineEnd → Type 0
Reads from to bytes Feed = Consumes from to (bytes ++ 10 ∷ [])
Reads from to bytes Input = IfSome from (λ all. (all ≡ bytes) × (to ≡ Some []))
Reads from to bytes Open = Consumes from to bytes

-- ---- a line

-- a line that goes on is too long already
abbrev pub IsLongIfOpen : List ℕ → LineEnd → Type 0
IsLongIfOpen bytes Open = line_limit < length bytes
IsLongIfOpen bytes end = Unit {0}

-- a line was read, or of one that is too long its first bytes, which are too many
pub record IsHeard (from to : Option (List ℕ)) (bytes : List ℕ) (end : LineEnd) : Type 0 where
  pub one_line : HasNoFeed bytes
  pub is_read : Reads from to bytes end
  pub long : IsLongIfOpen bytes end

-- a line was begun, which is not too long by now
pub record IsBegun (from to : Option (List ℕ)) (bytes : List ℕ) : Type 0 where
  pub one_line : HasNoFeed bytes
  pub is_read : Reads from to bytes Open
  pub short : length bytes ≤ line_limit

-- what was read of a line, by the result: where the reader failed, a part of one that is not too long by then
abbrev pub Hears : {E : Type 0} → Option (List ℕ) → Option (List ℕ) → List ℕ → Result LineEnd E → Type 0
Hears from to bytes (Ok end) = IsHeard from to bytes end
Hears from to bytes (Err fault) = IsBegun from to bytes

-- the rest of a line was read, and it had a line feed or not; or a part of the rest
abbrev pub IsPassed : Option (List ℕ) → Option (List ℕ) → LineEnd → Type 0
IsPassed from to end = (bytes : List ℕ) × HasNoFeed bytes × Reads from to bytes end

-- all of the rest, or where the reader failed a part of it
abbrev pub Passes : {E : Type 0} → Option (List ℕ) → Option (List ℕ) → Result Bool E → Type 0
Passes from to (Ok fed) = IsPassed from to (if fed then Feed else Input)
Passes from to (Err fault) = IsPassed from to Open

-- Whether a line may follow one that stands so: behind a line feed, and behind one that is too long, of which the rest is
-- read first.
abbrev pub MayFollow : {E : Type 0} → Option (List ℕ) → Option (List ℕ) → LineEnd → Result Bool E → Type 0
MayFollow from to Open result = Passes from to result
MayFollow from to Feed (Ok fed) = (fed ≡ true) × (to ≡ from)
MayFollow from to Input (Ok fed) = (fed ≡ false) × (to ≡ from)
MayFollow from to end (Err fault) = ⊥

-- ---- a part of a line

-- a line grew by what was read
abbrev pub Grows : Option (List ℕ) → Option (List ℕ) → List ℕ → List ℕ → LineEnd → Type 0
Grows from to old new end = (part : List ℕ) × HasNoFeed part × Reads from to part end × (new ≡ old ++ part)

-- where the reader failed, nothing was read
abbrev pub GrowsBy : {E : Type 0} → Option (List ℕ) → Option (List ℕ) → List ℕ → List ℕ → Result LineEnd E → Type 0
GrowsBy from to old new (Ok end) = Grows from to old new end
GrowsBy from to old new (Err fault) = Keeps from to × (new ≡ old)

-- this many bytes are used: those of the line and its feed, or those of the line alone; none is there at the end of the input
abbrev pub IsUsed : List ℕ → List ℕ → ℕ → LineEnd → Type 0
IsUsed shown bytes used Feed = take used shown ≡ bytes ++ 10 ∷ []
IsUsed shown bytes used Input = (shown ≡ []) × (bytes ≡ [])
IsUsed shown bytes used Open = take used shown ≡ bytes

-- which of the bytes that a reader shows belong to the line, of which at most this many are stored
pub record IsFront (shown : List ℕ) (capacity : ℕ) (bytes : List ℕ) (used : ℕ) (end : LineEnd) : Type 0 where
  pub one_line : HasNoFeed bytes
  pub fits : length bytes ≤ capacity
  pub within : used ≤ length shown
  pub is_used : IsUsed shown bytes used end
