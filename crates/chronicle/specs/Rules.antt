-- The rule of the log of events, and what a step tells.
use Rattle.std.specs.Prelude.{ℕ, ◌≡◌, ◌==◌, true, List, [], ◌∷◌, ◌++◌, length, MatchBool}
use Rattle.logbook.specs.Pages.{Cell, Step, View, Book, Named}
use Rattle.chronicle.specs.Events.{Happened}

-- the first word is the length of the log; a book has a second word, which stays at 0
abbrev pub IsCounted : List Cell → List Happened → Type 0
IsCounted cells log = cells ≡ (length log, true) ∷ (0, true) ∷ []

-- the first word of this book
abbrev pub head_of : Book → Named
head_of b = record { tracked = true; key = 0; book = b }

-- the event was added to all that had been seen; or the log was of another length
abbrev pub Adds : Step Happened → View Happened ℕ → ℕ → View Happened ℕ → Type 0
Adds s v found w = MatchBool (found == s.old) (w.0 ≡ v.0 ++ s.ask ∷ []) (length w.0 ≡ found)
