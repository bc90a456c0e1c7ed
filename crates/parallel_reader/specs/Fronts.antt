-- The front of a log, which is read while more of it comes.
use Rattle.std.specs.Prelude.{◌≡◌, ℕ, List, [], ◌∷◌, ◌++◌, length, Option, Bool, true, false, Result, Ok, IfOk, IfErr, ◌⊎◌}
use Rattle.std.specs.List.{AllByRecursion}
use Rattle.std.specs.Io.KnownBytes.{Consumes}
use Rattle.swf_text.specs.declared.fault.SwfFault.{SwfFault}
use Rattle.swf_text.specs.Comment.{IsComment}
use Rattle.swf_text.specs.Grammar.{IsText, IsOkOf, IsFaultOf, HasReached}
use Rattle.swf_text.specs.Text.{LogText, lines}
use Rattle.swf_text.specs.Reading.{text_of}
use Rattle.parallel_reader.specs.declared.portion.JobLines.{JobLines}
use Rattle.parallel_reader.specs.Jobs.{AreRead, portion_lines}

-- the bytes are whole lines: there are none, or the last one is a line feed
abbrev pub EndsLine : List ℕ → Type 0
EndsLine bytes = (bytes ≡ []) ⊎ ((front : List ℕ) × (bytes ≡ front ++ 10 ∷ []))

-- what is known of a front: what its lines hold, how many they are, and how many bytes it has
pub record Progress : Type 0 where
  pub text : LogText
  pub lines : ℕ
  pub bytes : ℕ

-- these whole lines were read so
pub record IsFront (front : List ℕ) (progress : Progress) : Type 0 where
  pub whole : EndsLine front
  pub read : text_of front ≡ Ok progress.text
  pub counted : progress.lines ≡ length (lines front)
  pub size : progress.bytes ≡ length front

-- bytes that were read at once: whole lines, what follows them, and job lines that were read of some lines
pub record PieceView : Type 0 where
  pub lines : List ℕ
  pub tail : List ℕ
  pub jobs : List JobLines

-- a piece holds these bytes, and behind them what a reader gave
abbrev pub Fills : Option (List ℕ) → Option (List ℕ) → List ℕ → PieceView → Type 0
Fills old new front piece = (more : List ℕ) × Consumes old new more × (piece.lines ++ piece.tail ≡ front ++ more)

-- the job lines are those of these lines, cut into portions
pub record AreJobsIn (ls : List (List ℕ)) (jobs : List JobLines) : Type 0 where
  pub portions : List (List ℕ)
  pub whole : portion_lines portions ≡ ls
  pub count : length jobs ≡ length portions
  pub read : AreRead portions jobs

-- a front with the lines of a piece behind it, if they were added; otherwise it is as it was
abbrev pub Grows : Progress → PieceView → Progress → Bool → Type 0
Grows old piece new true = (front : List ℕ) → IsFront front old → AreJobsIn (lines piece.lines) piece.jobs → IsFront (front ++ piece.lines) new
Grows old piece new false = new ≡ old

-- behind bytes that were had before a reader gave more, and all of them are a front and those behind it
pub record IsReadBehind (had : List ℕ) (old new : Option (List ℕ)) (progress : Progress) (rest : List ℕ) : Type 0 where
  pub front : List ℕ
  pub is_front : IsFront front progress
  pub more : List ℕ
  pub given : Consumes old new more
  pub whole : had ++ more ≡ front ++ rest

-- what a log is read as: its text, or its first fault, unless memory ran out
pub record IsReading (log : List ℕ) (result : Result LogText SwfFault) : Type 0 where
  pub text : IfOk result (λ t. IsText (lines log) t)
  pub only : (t : LogText) → IsText (lines log) t → IsOkOf result t
  pub fault : IfErr result (λ f. IsFaultOf (lines log) f)
  pub reached : IfErr result (λ f. HasReached (lines log) f.line)
  pub comments : IfOk result (λ t. AllByRecursion IsComment t.comments)
