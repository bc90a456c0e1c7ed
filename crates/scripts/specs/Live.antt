-- A conversation: the response to each line is written before the next is read.
use Rattle.std.specs.Prelude.{◌≡◌, ℕ, ◌+◌, nat_lt, Bool, true, false, if◌then◌else◌, List, [], ◌++◌, length, take, Option, IfSome, Result, Ok, Err}
use Rattle.std.specs.List.{All}
use Rattle.std.specs.Io.KnownBytes.{Appends, Consumes, Keeps}
use Rattle.swf_text.specs.Limits.{line_limit}
use Rattle.swf_text.specs.Text.{lines}
use Rattle.commands.specs.Commands.{command_of_line}
use Rattle.scripts.specs.Hearing.{HasNoFeed, IsLongIfOpen, Reads}
use Rattle.version_book.specs.Session.{Session}
use Rattle.scripts.specs.Transcript.{IsTranscript, IsTranscriptOf, is_quit, looked_at}
use Rattle.scripts.specs.declared.hearing.LineEnd.{LineEnd}
use Rattle.scripts.specs.declared.hearing.LineEnd.TheVariants.{Feed, Input, Open}
use Rattle.scripts.specs.declared.live.LiveFault.{LiveFault}
use Rattle.scripts.specs.declared.live.LiveFault.TheVariants as faults

-- ---- how far a reader was read

-- whole lines: those of whatever stands behind them follow theirs
abbrev pub AreWholeLines : List ℕ → Type 0
AreWholeLines bytes = (rest : List ℕ) → lines (bytes ++ rest) ≡ lines bytes ++ lines rest

-- the response to a line that was begun: all of it once it is too long, and before that nothing
abbrev pub answered_of : List ℕ → List ℕ
answered_of part = if nat_lt line_limit (length part) then part else []

module _ (A : Type 0) where
  -- none of the lines is `quit`
  abbrev pub NoneQuits : List ℕ → Type 0
  NoneQuits bytes = All (λ line. is_quit (command_of_line {A = A} line) ≡ false) (lines bytes)

  -- Whole lines were read, none of which is `quit`, and behind them this line, which stands so. Nothing else was read.
  pub record IsReadTo (from to : Option (List ℕ)) (whole line : List ℕ) (end : LineEnd) : Type 0 where
    pub are_whole : AreWholeLines whole
    pub none_quits : NoneQuits whole
    pub one_line : HasNoFeed line
    pub is_read : Reads from to (whole ++ line) end

  -- a line is the last: `quit` with its line feed, or what stands at the end of the input
  abbrev pub IsLast : List ℕ → LineEnd → Type 0
  IsLast line Feed = is_quit (command_of_line {A = A} line) ≡ true
  IsLast line Input = Unit {0}
  IsLast line Open = ⊥

  -- all was read up to the line feed of the first `quit`, or to the end of the input
  abbrev pub IsReadOut : Option (List ℕ) → Option (List ℕ) → Type 0
  IsReadOut from to = (whole line : List ℕ) × (end : LineEnd) × IsReadTo from to whole line end × IsLast line end

-- ---- what was written

module _ (A : Type 0) (comments : List (List ℕ)) (first : Session) where
  -- So far these bytes were read, whole lines of which none is `quit`, and these were written. Whatever lines stand behind
  -- them, and any transcript of those from the present state on makes one transcript with them.
  pub record IsSaid (from to old new : Option (List ℕ)) (now : Session) (number : ℕ) : Type 0 where
    pub read : List ℕ
    pub written : List ℕ
    pub are_read : Consumes from to read
    pub are_whole : AreWholeLines read
    pub none_quits : NoneQuits A read
    pub are_written : Appends old new written
    pub goes_on : (rest later : List ℕ) → IsTranscript A comments now (looked_at A (lines rest)) number later
        → IsTranscriptOf A comments first (read ++ rest) (written ++ later)
    -- what was written by now is a transcript of the lines that were read by now
    pub transcript : IsTranscriptOf A comments first read written

  -- What was read and what was written when a conversation ended. At its end, a transcript of all lines up to the first
  -- `quit`. Where the reader failed, all lines that were read have their responses, and one that was begun if it is too long already.
  -- Where the writer failed, one line more was read, and behind the responses to the others a beginning of its own was
  -- written. Where memory was refused at the start, nothing was read or written.
  abbrev pub Talks : {X : Type 0} → Option (List ℕ) → Option (List ℕ) → Option (List ℕ) → Option (List ℕ) → Result X LiveFault → Type 0
  Talks from to old new (Ok x) =
      (script written : List ℕ) × IfSome from (λ all. script ≡ all) × IsReadOut A from to × IsTranscriptOf A comments first script written × Appends old new written
  Talks from to old new (Err faults.Read) =
      (whole part written : List ℕ) × IsReadTo A from to whole part Open × IsTranscriptOf A comments first (whole ++ answered_of part) written × Appends old new written
  Talks from to old new (Err faults.Write) =
      (whole line before text : List ℕ) × (end : LineEnd) × IsReadTo A from to whole line end × IsLongIfOpen line end
      × IsTranscriptOf A comments first whole before × IsTranscriptOf A comments first (whole ++ line) (before ++ text)
      × ((n : ℕ) × Appends old new (before ++ take n text))
  Talks from to old new (Err faults.Memory) = Keeps from to × Keeps old new

  -- A turn, with what was said before it: one line more was read, and its response was written; or the conversation
  -- ended. At `quit` it ends whatever stands behind.
  abbrev pub Turns : Option (List ℕ) → Option (List ℕ) → Option (List ℕ) → Option (List ℕ) → Session → ℕ → Result Bool LiveFault → Type 0
  Turns from to old new next number (Ok true) = IsSaid from to old new next (number + 1)
  Turns from to old new next number (Ok false) = Talks {X = Unit {0}} from to old new (Ok tt)
  Turns from to old new next number (Err fault) = Talks {X = Unit {0}} from to old new (Err fault)
