-- Job lines that are read apart from those before them, and the entries that they add.
use Rattle.std.specs.Prelude.{◌≡◌, ℕ, ◌+◌, ◌<◌, ◌≤◌, List, [], ◌∷◌, ◌++◌, length, map, take, true, Option, IfSome, Result, Ok, Err, slice_index_or}
use Rattle.std.specs.List.{before_first, list_any, flat_map}
use Rattle.swf_text.specs.declared.line.Fields.{Fields}
use Rattle.swf_text.specs.declared.line.LineRead.{LineRead}
use Rattle.swf_text.specs.declared.line.LineRead.TheVariants as read
use Rattle.swf_text.specs.declared.packed.PackedLine.{PackedLine}
use Rattle.swf_text.specs.declared.fault.FaultKind.{FaultKind}
use denote.Ref.{Bor}
use Rattle.parallel_reader.specs.declared.portion.Counts.{Counts}
use Rattle.parallel_reader.specs.declared.portion.JobLines.{JobLines}
use Rattle.swf_text.specs.Entry.{LogEntry, has_number}
use Rattle.swf_text.specs.Packed.{unpacked}
use Rattle.swf_text.specs.Line.{line_of}
use Rattle.swf_text.specs.Text.{LogText, is_feed, lines}
use Rattle.swf_text.specs.Reading.{with_job, with_lines}
use Rattle.parallel_reader.specs.Adding.{texts}

-- ---- what is read of lines by themselves

-- blanks or a job line, behind which others hold the rest of the job lines
abbrev pub BeginsJobs : LineRead → (List Fields → Type 0) → List Fields → Type 0
BeginsJobs read.Blank Others jobs = Others jobs
BeginsJobs read.Comment Others jobs = ⊥
BeginsJobs (read.Job job) Others jobs = (rest : List Fields) × (jobs ≡ job ∷ rest) × Others rest
BeginsJobs (read.Fault fault) Others jobs = ⊥

-- the lines are blanks and these job lines
abbrev pub AreJobs : List (List ℕ) → List Fields → Type 0
AreJobs [] jobs = jobs ≡ []
AreJobs (line ∷ ls) jobs = BeginsJobs (line_of line) (AreJobs ls) jobs

-- the values of a packed line
abbrev pub job_of : PackedLine → Fields
job_of packed = record { 0 = unpacked packed }

-- the first of these packed lines, as many as are counted, are the job lines of the lines, which are counted too
pub record AreCounted (ls : List (List ℕ)) (jobs : List PackedLine) (counts : Counts) : Type 0 where
  pub within : counts.jobs ≤ length jobs
  pub read : AreJobs ls (map job_of (take counts.jobs jobs))
  pub lines : counts.lines ≡ length ls

abbrev pub IsReadOf : List (List ℕ) → List PackedLine → Option Counts → Type 0
IsReadOf ls jobs counts = IfSome counts (AreCounted ls jobs)

-- the bytes begin with a job line, which is now at this place, behind those that were read before
abbrev pub TakesLine : List ℕ → List PackedLine → List PackedLine → ℕ → Type 0
TakesLine bytes old new place =
    (packed : PackedLine) × (place < length new) × (take (place + 1) new ≡ take place old ++ packed ∷ [])
    × (line_of (before_first is_feed bytes) ≡ read.Job (job_of packed))

-- ---- what job lines add

-- what follows a job line
abbrev pub after_job : Result LogText FaultKind → (LogText → Result LogText FaultKind) → Result LogText FaultKind
after_job (Err kind) others = Err kind
after_job (Ok text) others = others text

-- the text with these job lines more, or the first fault among them
abbrev pub with_jobs : LogText → List Fields → Result LogText FaultKind
with_jobs text [] = Ok text
with_jobs text (job ∷ jobs) = after_job (with_job text job.0) (λ next. with_jobs next jobs)

-- these job lines lead from entries to others, whatever the comments
abbrev pub AddsJobs : List LogEntry → List Fields → List LogEntry → Type 0
AddsJobs old jobs new = (comments : List (List ℕ)) → with_jobs (record { comments = comments; entries = old }) jobs ≡ Ok (record { comments = comments; entries = new })

-- these lines lead from entries to others, whatever the comments, and wherever the lines stand
abbrev pub AddsAll : List LogEntry → List (List ℕ) → List LogEntry → Type 0
AddsAll old ls new = (number : ℕ) (comments : List (List ℕ)) → with_lines number (record { comments = comments; entries = old }) ls ≡ Ok (record { comments = comments; entries = new })

-- some entries, and others behind them
abbrev pub Extends : List LogEntry → List LogEntry → Type 0
Extends old new = (more : List LogEntry) × (new ≡ old ++ more)

-- all job numbers are below this one
abbrev pub Below : ℕ → List LogEntry → Type 0
Below next entries = (n : ℕ) → list_any (has_number n) entries ≡ true → n < next

-- ---- portions of a log

-- the lines of portions, one portion after another
abbrev pub portion_lines : List (List ℕ) → List (List ℕ)
portion_lines portions = flat_map lines portions

-- the job lines of each of the portions stand at its place
abbrev pub AreRead : List (List ℕ) → List JobLines → Type 0
AreRead portions jobs =
    (place : ℕ) (d : JobLines) → place < length portions → IsReadOf (lines (slice_index_or portions place [])) (slice_index_or jobs place d).jobs (slice_index_or jobs place d).count

-- there are job lines for each of these portions, and they are those of its bytes
pub record AreJobsOf (portions : List (Bor (List ℕ))) (jobs : List JobLines) : Type 0 where
  pub count : length jobs ≡ length portions
  pub read : AreRead (texts portions) jobs
