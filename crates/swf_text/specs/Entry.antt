-- An entry of a log: a job's summary line and its partial lines (Standard Workload Format, version 2).
use Rattle.std.specs.Prelude.{◌≡◌, ℕ, ◌-◌, ◌*◌, ◌%◌, ◌/◌, ◌≤◌, List, length, Bool, true, false, ◌&&◌, ◌||◌, ◌==◌, nat_lt, if◌then◌else◌, Option, Some, None, Result, Ok, Err, ℤ, pos, negsuc, ◌≤ℤ◌, nat_abs, slice_index_or, unwrap_or}
use Rattle.std.specs.List.{AllByRecursion, list_all}
use Rattle.swf_text.specs.Limits.{whole_limit}
use Rattle.swf_text.specs.declared.line.Fields.{Fields}
use Rattle.swf_text.specs.declared.fault.EntryFault.{EntryFault}
use Rattle.swf_text.specs.declared.fault.EntryFault.TheVariants as faults
use Rattle.swf_text.specs.Number.{greatest, is_below_zero, whole_of}

-- the values of a job's summary line, and those of each of its partial lines, in millionths
pub record LogEntry : Type 0 where
  pub main : List ℤ
  pub parts : List (List ℤ)

-- the values of a line
abbrev pub values : Fields → List ℤ
values fields = fields.0

-- ---- the numbers of a line

-- the value of a field, the first of which is field 1
abbrev pub field : List ℤ → ℕ → ℤ
field line place = slice_index_or line (place - 1) (pos 0)

-- the number that a value is, where it is whole and at least 0
abbrev pub whole_number : ℤ → Option ℕ
whole_number (pos m) = if m % 1000000 == 0 then Some (m / 1000000) else None
whole_number (negsuc m) = None

-- the status of a partial execution: exactly 2, 3 or 4
abbrev pub is_partial : ℤ → Bool
is_partial (pos m) = m == 2000000 || m == 3000000 || m == 4000000
is_partial (negsuc m) = false

-- field 1 of the line is this job number
abbrev pub HasNumber : List ℤ → ℕ → Type 0
HasNumber line number = field line 1 ≡ pos (1000000 * number)

-- this number and no other
abbrev pub is_some_number : ℕ → Option ℕ → Bool
is_some_number n None = false
is_some_number n (Some m) = n == m

-- the entry has this job number, as a test
abbrev pub has_number : ℕ → LogEntry → Bool
has_number n entry = is_some_number n (whole_number (field entry.main 1))

-- a number of at least 0, and 0 for a negative one
abbrev pub or_zero : ℤ → ℕ
or_zero (pos n) = n
or_zero (negsuc n) = 0

-- the job number of an entry
abbrev pub number_of_entry : LogEntry → ℕ
number_of_entry entry = unwrap_or (whole_number (field entry.main 1)) 0

-- the second in which an entry is submitted: field 2, to the nearest second
abbrev pub submit_of : LogEntry → ℕ
submit_of entry = or_zero (whole_of (field entry.main 2))

-- ---- what holds of every entry

-- a partial line of the job with this number
pub record IsPart (number : ℕ) (part : List ℤ) : Type 0 where
  pub numbered : HasNumber part number
  pub partial : is_partial (field part 11) ≡ true

-- a summary line with a job number and a submit time, both within the limit, and partial lines of that job
pub record IsEntry (entry : LogEntry) : Type 0 where
  pub number : ℕ
  pub eighteen : length entry.main ≡ 18
  pub numbered : HasNumber entry.main number
  pub number_limit : number ≤ whole_limit
  pub submit : pos 0 ≤ℤ field entry.main 2
  pub submit_limit : nat_abs (field entry.main 2) ≤ greatest
  pub summary : is_partial (field entry.main 11) ≡ false
  pub parts : AllByRecursion (IsPart number) entry.parts

-- the values of a line: eighteen, each at most a trillion on either side
pub record AreFields (values : List ℤ) : Type 0 where
  pub eighteen : length values ≡ 18
  pub within : AllByRecursion (λ v. nat_abs v ≤ greatest) values

-- each line of the entry has such values
pub record HasFields (entry : LogEntry) : Type 0 where
  pub main : AreFields entry.main
  pub parts : AllByRecursion AreFields entry.parts

-- ---- the entry of given lines

-- a partial line of the job with this number, as a test
abbrev pub is_part : ℕ → List ℤ → Bool
is_part number part = is_some_number number (whole_number (field part 1)) && is_partial (field part 11)

-- the entry of lines whose summary line has this job number, if any
abbrev pub entry_numbered : List ℤ → List (List ℤ) → Option ℕ → Result LogEntry EntryFault
entry_numbered main parts None = Err faults.BadJobNumber
entry_numbered main parts (Some number) =
    if is_below_zero (field main 2) then Err faults.BadSubmit
    else (if is_partial (field main 11) then Err faults.BadStatus
    else (if list_all (is_part number) parts then Ok (record { main = main; parts = parts })
    else Err faults.BadPart))

-- the entry of these lines, or the first of its faults
abbrev pub entry_made : List ℤ → List (List ℤ) → Result LogEntry EntryFault
entry_made main parts = entry_numbered main parts (whole_number (field main 1))

-- ---- a field of an entry changed

-- whether a field of a summary line may have this value: fields 2 to 18 may be changed, field 2 to no
-- negative value, and field 11 to no status of a partial execution
abbrev pub field_change : ℕ → ℤ → Result (Unit {0}) EntryFault
field_change place value =
    if nat_lt place 2 || nat_lt 18 place then Err faults.BadJobNumber
    else (if place == 2 && is_below_zero value then Err faults.BadSubmit
    else (if place == 11 && is_partial value then Err faults.BadStatus
    else Ok tt))
