-- Lines that are added to a text which others led to.
use Rattle.std.specs.Prelude.{◌≡◌, ℕ, ◌+◌, ◌<◌, List, ◌++◌, length, map, Result, Ok, Err}
use denote.Ref.{Bor}
use Rattle.swf_text.specs.declared.line.LineRead.{LineRead}
use Rattle.swf_text.specs.declared.fault.SwfFault.{SwfFault}
use Rattle.swf_text.specs.Line.{line_of}
use Rattle.swf_text.specs.Text.{LogText}
use Rattle.swf_text.specs.Reading.{with_lines, FailsAt}

-- the bytes of lines that are lent
abbrev pub texts : List (Bor (List ℕ)) → List (List ℕ)
texts ls = map (λ l. l.now) ls

-- what each of them is
abbrev pub read_texts : List (Bor (List ℕ)) → List LineRead
read_texts ls = map (λ l. line_of l.now) ls

-- The line of this number is one of these, the first of which has the other number, and those before it can be added
-- to a text.
pub record CanReach (first : ℕ) (old : LogText) (ls : List (List ℕ)) (line : ℕ) : Type 0 where
  pub front : List (List ℕ)
  pub behind : List (List ℕ)
  pub before : LogText
  pub whole : ls ≡ front ++ behind
  pub some : 0 < length behind
  pub place : line ≡ first + length front
  pub added : with_lines first old front ≡ Ok before

-- lines were added to a text, the first of which has this number, or one of them has this fault
abbrev pub AddsLines : ℕ → LogText → List (List ℕ) → LogText → Result (Unit {0}) SwfFault → Type 0
AddsLines first old ls new (Ok done) = with_lines first old ls ≡ Ok new
AddsLines first old ls new (Err fault) = FailsAt fault.kind fault.line (with_lines first old ls) × CanReach first old ls fault.line
