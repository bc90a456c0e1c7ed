-- Which lines are a text, and which fault is their first: facts on whole lists of lines.
use Rattle.std.specs.Prelude.{◌≡◌, ◌≢◌, ℕ, ◌-◌, ◌<◌, ◌≤◌, List, [], ◌∷◌, ◌++◌, length, take, slice_index_or, false, true, Result, Ok, Err, ℤ, pos, ◌≤ℤ◌, ◌<ℤ◌, ◌⊎◌}
use Rattle.std.specs.List.{AllByRecursion, list_any}
use Rattle.swf_text.specs.Limits.{entry_limit}
use Rattle.swf_text.specs.declared.fault.FaultKind.{FaultKind}
use Rattle.swf_text.specs.declared.fault.FaultKind.TheVariants as kinds
use Rattle.swf_text.specs.declared.fault.SwfFault.{SwfFault}
use Rattle.swf_text.specs.declared.line.LineRead.{LineRead}
use Rattle.swf_text.specs.declared.line.LineRead.TheVariants as read
use Rattle.swf_text.specs.Line.{IsReadAs, from_first, without_returns}
use Rattle.swf_text.specs.Entry.{LogEntry, HasNumber, IsPart, has_number, field, is_partial}
use Rattle.swf_text.specs.Fault.{kind_of}
use Rattle.swf_text.specs.Text.{LogText, empty}

-- a summary line: it has this job number, and no status of a partial execution
pub record IsSummary (job : List ℤ) (number : ℕ) : Type 0 where
  pub numbered : HasNumber job number
  pub summary : is_partial (field job 11) ≡ false

-- no entry has this job number
abbrev pub IsNew : ℕ → List LogEntry → Type 0
IsNew number entries = AllByRecursion (λ (other : LogEntry). HasNumber other.main number → ⊥) entries

-- a summary line adds an entry: its number is new, and there is capacity
pub record AddsJob (t : LogText) (job : List ℤ) (u : LogText) : Type 0 where
  pub number : ℕ
  pub line : IsSummary job number
  pub submit : pos 0 ≤ℤ field job 2
  pub new : IsNew number t.entries
  pub capacity : length t.entries < entry_limit
  pub value : u ≡ record t { entries = t.entries ++ record { main = job; parts = [] } ∷ [] }

-- a partial line joins the last entry, which has its number
pub record AddsPart (t : LogText) (part : List ℤ) (u : LogText) : Type 0 where
  pub number : ℕ
  pub line : IsPart number part
  pub front : List LogEntry
  pub last : LogEntry
  pub entries : t.entries ≡ front ++ last ∷ []
  pub same : HasNumber last.main number
  pub value : u ≡ record t { entries = front ++ record last { parts = last.parts ++ part ∷ [] } ∷ [] }

-- what a line adds that is read so: blanks nothing, a comment itself without the blanks at its front
-- and the carriage returns at its end, a job line an entry or a part of the last one
abbrev pub AddsRead : LogText → List ℕ → LineRead → LogText → Type 0
AddsRead t line read.Blank u = u ≡ t
AddsRead t line read.Comment u = u ≡ record t { comments = t.comments ++ from_first (without_returns line) ∷ [] }
AddsRead t line (read.Job job) u = AddsJob t job.0 u ⊎ AddsPart t job.0 u
AddsRead t line (read.Fault fault) u = ⊥

-- a line takes one text to the next
pub record AddsLine (t : LogText) (line : List ℕ) (u : LogText) : Type 0 where
  pub read : LineRead
  pub is : IsReadAs line read
  pub adds : AddsRead t line read u

-- the lines take one text to another, line after line
abbrev pub IsTextFrom : LogText → List (List ℕ) → LogText → Type 0
IsTextFrom t [] u = u ≡ t
IsTextFrom t (line ∷ lines) u = (next : LogText) × AddsLine t line next × IsTextFrom next lines u

-- the lines are a text, and this one
abbrev pub IsText : List (List ℕ) → LogText → Type 0
IsText lines t = IsTextFrom empty lines t

-- the first fault of a job line behind a text, in the order of checks: no job number; then of a partial
-- line that the last entry has another number; then of a summary line that its submit time is negative,
-- that an entry has its number, that there is no capacity
abbrev pub IsJobFault : LogText → List ℤ → FaultKind → Type 0
IsJobFault t job kinds.BadJobNumber = (number : ℕ) → HasNumber job number → ⊥
IsJobFault t job kinds.OrphanPartial =
    (number : ℕ) × IsPart number job × ((front : List LogEntry) (last : LogEntry) → t.entries ≡ front ++ last ∷ [] → HasNumber last.main number → ⊥)
IsJobFault t job kinds.BadSubmit = (number : ℕ) × IsSummary job number × (field job 2 <ℤ pos 0)
IsJobFault t job kinds.DuplicateJob =
    (number : ℕ) × IsSummary job number × (pos 0 ≤ℤ field job 2) × (list_any (has_number number) t.entries ≡ true)
IsJobFault t job kinds.TooManyJobs =
    (number : ℕ) × IsSummary job number × (pos 0 ≤ℤ field job 2) × IsNew number t.entries × (entry_limit ≤ length t.entries)
IsJobFault t job kind = ⊥

-- the first fault of a line that is read so, behind a text
abbrev pub IsReadFault : LogText → LineRead → FaultKind → Type 0
IsReadFault t read.Blank kind = ⊥
IsReadFault t read.Comment kind = ⊥
IsReadFault t (read.Job job) kind = IsJobFault t job.0 kind
IsReadFault t (read.Fault fault) kind = kind ≡ kind_of fault

-- the first fault of a line behind a text
pub record IsLineFault (t : LogText) (line : List ℕ) (kind : FaultKind) : Type 0 where
  pub read : LineRead
  pub is : IsReadAs line read
  pub fault : IsReadFault t read kind

-- the lines before this one, counted from 1, are a text
pub record HasReached (lines : List (List ℕ)) (line : ℕ) : Type 0 where
  pub before : LogText
  pub counted : 0 < line
  pub within : line ≤ length lines
  pub text : IsText (take (line - 1) lines) before

-- the lines before this one are a text, and behind it this one has this fault first
pub record FirstFault (lines : List (List ℕ)) (fault : SwfFault) : Type 0 where
  pub before : LogText
  pub counted : 0 < fault.line
  pub within : fault.line ≤ length lines
  pub text : IsText (take (fault.line - 1) lines) before
  pub refused : IsLineFault before (slice_index_or lines (fault.line - 1) []) fault.kind

-- the first lines up to this one are no text, and fewer of them are one, however many
pub record IsLeastNoText (lines : List (List ℕ)) (line : ℕ) : Type 0 where
  pub none : (t : LogText) → IsText (take line lines) t → ⊥
  pub fewer : (count : ℕ) → count < line → (t : LogText) × IsText (take count lines) t

-- what a reading answers of a text: the text, unless memory ran out
abbrev pub IsOkOf : Result LogText SwfFault → LogText → Type 0
IsOkOf (Ok text) t = text ≡ t
IsOkOf (Err fault) t = fault.kind ≡ kinds.Memory

-- a fault is the first of the lines, unless memory ran out
abbrev pub IsFaultOf : List (List ℕ) → SwfFault → Type 0
IsFaultOf lines fault = fault.kind ≢ kinds.Memory → FirstFault lines fault
