-- The edits of a log, which of them are refused, and the log that an edit makes.
-- Fields are those of the Standard Workload Format, version 2.
use Rattle.std.specs.Prelude.{◌≡◌, ℕ, ◌-◌, ◌==◌, ◌&&◌, ◌||◌, nat_lt, nat_le, not, if◌then◌else◌, Bool, List, [], ◌∷◌, length, take, find, filter, map, Option, Some, None, is_some, ℤ, slice_set}
use Rattle.swf_text.specs.Limits.{entry_limit}
use Rattle.swf_text.specs.Entry.{LogEntry, number_of_entry, is_partial}
use Rattle.swf_text.specs.Number.{is_below_zero}
use Rattle.swf_text.specs.Log.{log_of}
use Rattle.job_table.specs.declared.edit.Edit.{Edit}
use Rattle.job_table.specs.declared.edit.Edit.TheVariants as edits
use Rattle.job_table.specs.declared.fault.EditFault.{EditFault}
use Rattle.job_table.specs.declared.fault.EditFault.TheVariants as faults

-- an entry more; the entry with this job number gone; or of that entry a field of the summary line with another value, in millionths
pub data LogEdit : Type 0 where
  Insert : (entry : LogEntry) → LogEdit
  Remove : (number : ℕ) → LogEdit
  Change : (number place : ℕ) (value : ℤ) → LogEdit

-- an edit without the memory that holds it
abbrev pub edit_of : {A : Type 0} → Edit A → LogEdit
edit_of (edits.Insert entry) = Insert entry
edit_of (edits.Remove number) = Remove number
edit_of (edits.Change number place value) = Change number place value

-- ---- a collection of entries

-- the entry with this job number, if any
abbrev pub entry_of : ℕ → List LogEntry → Option LogEntry
entry_of number entries = find (λ e. number_of_entry e == number) entries

-- whether an entry has this job number
abbrev pub holds : ℕ → List LogEntry → Bool
holds number entries = is_some (entry_of number entries)

-- the entry with this value in a field of its summary line; its partial lines stay
abbrev pub with_field : ℕ → ℤ → LogEntry → LogEntry
with_field place value entry = record entry { main = slice_set entry.main (place - 1) value }

-- the entries but the one with this job number
abbrev pub without : ℕ → List LogEntry → List LogEntry
without number entries = filter (λ e. not (number_of_entry e == number)) entries

-- the entries, the one with this job number changed
abbrev pub changed : ℕ → ℕ → ℤ → List LogEntry → List LogEntry
changed number place value entries = map (λ e. if number_of_entry e == number then with_field place value e else e) entries

-- ---- an edit

-- the collection after an edit, in no order
abbrev pub edited : LogEdit → List LogEntry → List LogEntry
edited (Insert entry) entries = entry ∷ entries
edited (Remove number) entries = without number entries
edited (Change number place value) entries = changed number place value entries

-- the log after an edit: the one log of the changed collection
abbrev pub applied : LogEdit → List LogEntry → List LogEntry
applied edit log = log_of (edited edit log)

-- why a field of a summary line may not have a value: fields 2 to 18 may be changed, field 2 to no negative
-- value, and field 11 to no status of a partial execution (2, 3 or 4)
abbrev pub change_fault : ℕ → ℤ → Option EditFault
change_fault place value =
    if nat_lt place 2 || nat_lt 18 place then Some faults.BadField
    else (if (place == 2 && is_below_zero value) || (place == 11 && is_partial value) then Some faults.BadValue else None)

-- the first fault of an edit of a log
abbrev pub fault_of : LogEdit → List LogEntry → Option EditFault
fault_of (Insert entry) log =
    if holds (number_of_entry entry) log then Some faults.DuplicateJob
    else (if nat_le entry_limit (length log) then Some faults.TableFull else None)
fault_of (Remove number) log = if holds number log then None else Some faults.NoSuchJob
fault_of (Change number place value) log = if holds number log then change_fault place value else Some faults.NoSuchJob

-- what a refused edit is answered: its first fault, or out of memory where it has none
abbrev pub IsRefusal : EditFault → LogEdit → List LogEntry → Type 0
IsRefusal faults.Memory edit log = fault_of edit log ≡ None
IsRefusal fault edit log = fault_of edit log ≡ Some fault

-- ---- edits one after another

-- the log after these edits
abbrev pub log_after : List LogEntry → List LogEdit → List LogEntry
log_after log [] = log
log_after log (edit ∷ edits) = log_after (applied edit log) edits

-- the log of a version: the opening log after the first accepted edits, as many as the version says
abbrev pub log_at : List LogEntry → List LogEdit → ℕ → List LogEntry
log_at opening accepted version = log_after opening (take version accepted)
