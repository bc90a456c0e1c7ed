-- Where the lines of a log stand in its bytes.
use Rattle.std.specs.Prelude.{ℕ, ◌+◌, ◌-◌, List, [], ◌∷◌, length, take, drop}
use Rattle.swf_text.specs.Text.{lines}

-- the places where lines begin and end, each without its line feed, the first of which begins at this place
abbrev pub bounds_from : ℕ → List (List ℕ) → List (ℕ × ℕ)
bounds_from start [] = []
bounds_from start (line ∷ lines) = (start, start + length line) ∷ bounds_from (start + length line + 1) lines

-- where each line of the bytes begins and ends
abbrev pub bounds_of : List ℕ → List (ℕ × ℕ)
bounds_of bytes = bounds_from 0 (lines bytes)

-- the bytes from one place to before another, as many as are there
abbrev pub bytes_at : List ℕ → ℕ × ℕ → List ℕ
bytes_at bytes bound = take (bound.1 - bound.0) (drop bound.0 bytes)
