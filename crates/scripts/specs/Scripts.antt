-- What is written for a script, by the rules of its analyst.
use Rattle.std.specs.Prelude.{◌≡◌, ℕ, ◌+◌, List, ◌∷◌, ◌++◌, length, take, Option, Result, Ok, Err}
use Rattle.std.specs.Io.KnownBytes.{Appends}
use Rattle.swf_text.specs.Text.{lines}
use Rattle.commands.specs.Commands.{command_of_line}
use Rattle.scripts.specs.Analysts.{LineBy, LinesBy}
use Rattle.version_book.specs.Rules.{Rules}
use Rattle.scripts.specs.Transcript.{looked_at}

-- What was written responds to all lines up to the first `quit`. Where the writer failed, the responses to some first lines were
-- written, and a beginning of the response to the line behind them, which was the last that was worked.
abbrev pub TellsBy : {S X E : Type 0} → Rules S → Type 0 → List (List ℕ) → S → List ℕ → Option (List ℕ) → Option (List ℕ) → Result X E → S → Type 0
TellsBy rules A comments first script old new (Ok x) last =
    (out : List ℕ) × LinesBy rules A comments first (looked_at A (lines script)) 1 out last × Appends old new out
TellsBy {S = S} rules A comments first script old new (Err fault) last =
    (front : List (List ℕ)) × (line : List ℕ) × (back : List (List ℕ)) × (before text : List ℕ) × (mid : S) × (looked_at A (lines script) ≡ front ++ line ∷ back)
    × LinesBy rules A comments first front 1 before mid × LineBy rules comments mid (1 + length front) (command_of_line {A = A} line) text last
    × ((n : ℕ) × Appends old new (before ++ take n text))
