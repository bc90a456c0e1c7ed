-- The reading of a log as one step after another: each line adds to the text before it, or ends the reading.
use Rattle.std.specs.Prelude.{◌≡◌, ℕ, ◌+◌, ◌-◌, List, [], ◌∷◌, ◌++◌, length, nat_le, if◌then◌else◌, Option, Some, None, Result, Ok, Err, ℤ, slice_get, slice_set}
use Rattle.std.specs.List.{list_any}
use Rattle.swf_text.specs.Limits.{entry_limit}
use Rattle.swf_text.specs.declared.line.LineRead.{LineRead}
use Rattle.swf_text.specs.declared.line.LineRead.TheVariants as read
use Rattle.swf_text.specs.declared.fault.FaultKind.{FaultKind}
use Rattle.swf_text.specs.declared.fault.FaultKind.TheVariants as kinds
use Rattle.swf_text.specs.declared.fault.SwfFault.{SwfFault}
use Rattle.swf_text.specs.Line.{line_of, from_first, without_returns}
use Rattle.swf_text.specs.Fault.{kind_of}
use Rattle.swf_text.specs.Entry.{LogEntry, field, whole_number, is_partial, has_number}
use Rattle.swf_text.specs.Number.{is_below_zero}
use Rattle.swf_text.specs.Text.{LogText, empty, lines}

-- ---- one line more

-- the last entry, if it has this number, with a partial line more
abbrev pub with_part : LogText → List ℤ → ℕ → Option LogEntry → Result LogText FaultKind
with_part text part number None = Err kinds.OrphanPartial
with_part text part number (Some last) =
    if has_number number last
    then Ok (record text { entries = slice_set text.entries (length text.entries - 1) (record last { parts = last.parts ++ part ∷ [] }) })
    else Err kinds.OrphanPartial

-- the checks of a job line among the entries before it, in their order
abbrev pub with_numbered : LogText → List ℤ → Option ℕ → Result LogText FaultKind
with_numbered text job None = Err kinds.BadJobNumber
with_numbered text job (Some number) =
    if is_partial (field job 11) then with_part text job number (slice_get text.entries (length text.entries - 1))
    else (if is_below_zero (field job 2) then Err kinds.BadSubmit
    else (if list_any (has_number number) text.entries then Err kinds.DuplicateJob
    else (if nat_le entry_limit (length text.entries) then Err kinds.TooManyJobs
    else Ok (record text { entries = text.entries ++ record { main = job; parts = [] } ∷ [] }))))

-- the text with a job line more, or the first fault of that line
abbrev pub with_job : LogText → List ℤ → Result LogText FaultKind
with_job text job = with_numbered text job (whole_number (field job 1))

-- the text with a line more that is read so
abbrev pub with_read : LogText → List ℕ → LineRead → Result LogText FaultKind
with_read text line read.Blank = Ok text
with_read text line read.Comment = Ok (record text { comments = text.comments ++ from_first (without_returns line) ∷ [] })
with_read text line (read.Job job) = with_job text job.0
with_read text line (read.Fault fault) = Err (kind_of fault)

-- the text with one line more, or the first fault of that line
unfoldable pub with_line : LogText → List ℕ → Result LogText FaultKind
with_line text line = with_read text line (line_of line)

-- ---- all lines

-- what follows a line, or its fault
abbrev pub at_line : ℕ → Result LogText FaultKind → (LogText → Result LogText SwfFault) → Result LogText SwfFault
at_line number (Err kind) others = Err (record { line = number; kind = kind })
at_line number (Ok text) others = others text

-- the text with these lines more, the first of which has this number, or the first fault
unfoldable pub with_lines : ℕ → LogText → List (List ℕ) → Result LogText SwfFault
with_lines number text [] = Ok text
with_lines number text (line ∷ lines) = at_line number (with_line text line) (λ next. with_lines (number + 1) next lines)

-- the text of the bytes, or their first fault
abbrev pub text_of : List ℕ → Result LogText SwfFault
text_of bytes = with_lines 1 empty (lines bytes)

-- ---- what a function answers, seen by view, unless memory ran out

-- a reading ends with this fault
abbrev pub Fails : {Y : Type 0} → FaultKind → Result Y FaultKind → Type 0
Fails kinds.Memory reading = Unit {0}
Fails kind reading = reading ≡ Err kind

-- a reading has come to this text, or ends with this fault
abbrev pub Adds : {X : Type 0} → LogText → Result X FaultKind → Result LogText FaultKind → Type 0
Adds text (Ok x) reading = reading ≡ Ok text
Adds text (Err kind) reading = Fails kind reading

-- a reading ends with this fault of this line
abbrev pub FailsAt : {Y : Type 0} → FaultKind → ℕ → Result Y SwfFault → Type 0
FailsAt kinds.Memory number reading = Unit {0}
FailsAt kind number reading = reading ≡ Err (record { line = number; kind = kind })

-- a reading gives this text, or this fault
abbrev pub Gives : Result LogText SwfFault → Result LogText SwfFault → Type 0
Gives (Ok text) reading = reading ≡ Ok text
Gives (Err fault) reading = FailsAt fault.kind fault.line reading
