-- The text that a log is written as, and what is written where the writer fails.
use Rattle.std.specs.Prelude.{ℕ, List, [], ◌∷◌, ◌++◌, take, Option, Result, Ok, Err, ℤ}
use Rattle.std.specs.List.{flat_map}
use Rattle.std.specs.Io.KnownBytes.{Appends}
use Rattle.swf_text.specs.Number.{canonical}
use Rattle.swf_text.specs.Entry.{LogEntry}
use Rattle.swf_text.specs.Text.{LogText}

-- a space and a number
abbrev pub spaced : ℤ → List ℕ
spaced v = 32 ∷ canonical v

-- the numbers of a line with one space between, and a line feed
abbrev pub line_text : List ℤ → List ℕ
line_text [] = 10 ∷ []
line_text (v ∷ vs) = canonical v ++ flat_map spaced vs ++ 10 ∷ []

-- a comment and a line feed
abbrev pub comment_text : List ℕ → List ℕ
comment_text comment = comment ++ 10 ∷ []

-- the summary line and then the partial lines
abbrev pub entry_text : LogEntry → List ℕ
entry_text entry = line_text entry.main ++ flat_map line_text entry.parts

-- the canonical text of a log: all comments, and then each entry
abbrev pub text_bytes : LogText → List ℕ
text_bytes text = flat_map comment_text text.comments ++ flat_map entry_text text.entries

-- all of the bytes were written, or where the writer failed the first of them
abbrev pub Writes : {X E : Type 0} → Result X E → Option (List ℕ) → Option (List ℕ) → List ℕ → Type 0
Writes (Ok x) old new bytes = Appends old new bytes
Writes (Err e) old new bytes = (n : ℕ) × Appends old new (take n bytes)
