-- The program's input, cut into a log and a script at the first line that is a mark.
use Rattle.std.specs.Prelude.{◌≡◌, ℕ, List, [], ◌∷◌, ◌++◌, Bool, true, false, ◌||◌, Option, Some, None, ◌⊎◌}
use Rattle.std.specs.List.{list_any}
use Rattle.std.specs.Str.{bytes_eq}
use Rattle.swf_text.specs.Text.{lines}

-- the line is `%`, or `%` and one carriage return
abbrev pub is_mark : List ℕ → Bool
is_mark line = bytes_eq line (37 ∷ []) || bytes_eq line (37 ∷ 13 ∷ [])

-- The lines of the input are those of the log, of which none is a mark, the mark, and those of the script. The mark ends with
-- a line feed, or is the last line and lacks it.
pub record IsMarked (input log script : List ℕ) : Type 0 where
  pub mark : List ℕ
  pub marks : is_mark mark ≡ true
  pub unmarked : list_any is_mark (lines log) ≡ false
  pub in_lines : lines input ≡ lines log ++ mark ∷ lines script
  pub in_bytes : (input ≡ log ++ mark ++ 10 ∷ script) ⊎ ((input ≡ log ++ mark) × (script ≡ []))

-- the log and the script, or no script where no line is a mark; then all is the log
abbrev pub IsCut : List ℕ → List ℕ → Option (List ℕ) → Type 0
IsCut input log (Some script) = IsMarked input log script
IsCut input log None = (log ≡ input) × (list_any is_mark (lines input) ≡ false)
