-- What was seen of a history, and how it grows. A front that is not kept has lost the history: it is none of a run, which no
-- contract can say, so what follows from a front is said of kept ones.
use Rattle.std.specs.Prelude.{◌≡◌, Bool, true, false, List, [], ◌∷◌, ◌++◌}
use mathlib.Core.List.{IsPrefix}
use Rattle.chronicle.specs.Events.{Happened}

-- a beginning of the history, and whether it still is one
pub record Seen : Type 0 where
  pub events : List Happened
  pub kept : Bool

-- all of a history that begins
abbrev pub nothing_yet : Seen
nothing_yet = record { events = []; kept = true }

-- one that is kept begins the other, which is kept too
abbrev pub Begins : Seen → Seen → Type 0
Begins one all = (one.kept ≡ true) × (all.kept ≡ true) × IsPrefix one.events all.events

-- the front became all of the history, which it began
abbrev pub Follows : Seen → Seen → Seen → Type 0
Follows old all new = (new.kept ≡ true → Begins old all × (new.events ≡ all.events)) × (new.kept ≡ false → new.events ≡ old.events)

-- the event was added to all of the history
abbrev pub Adds : Seen → Happened → Seen → Type 0
Adds old event new = (new.kept ≡ true → (old.kept ≡ true) × (new.events ≡ old.events ++ event ∷ [])) × (new.kept ≡ false → new.events ≡ old.events)
