-- The log: which entries may stand together, and the order that they are worked in.
use Rattle.std.specs.Prelude.{ℕ, ◌≤◌, List, [], ◌∷◌, length, Bool, ◌&&◌, ◌||◌, ◌==◌, nat_lt, IsTrue, if◌then◌else◌}
use Rattle.std.specs.List.{AllByRecursion, count_by}
use Rattle.swf_text.specs.Limits.{entry_limit}
use Rattle.swf_text.specs.Entry.{LogEntry, IsEntry, has_number, number_of_entry, submit_of}

-- entries of which no two have one job number, and no more than a log may have
pub record IsLog (entries : List LogEntry) : Type 0 where
  pub sound : AllByRecursion IsEntry entries
  pub distinct : (n : ℕ) → count_by (has_number n) entries ≤ 1
  pub capacity : length entries ≤ entry_limit

-- Submit order, of a second and a job number and another two: the earlier submit second comes first, and of one second the
-- smaller job number.
abbrev pub submits_before : ℕ → ℕ → ℕ → ℕ → Bool
submits_before second number other_second other_number =
    nat_lt second other_second || (second == other_second && nat_lt number other_number)

-- the one entry stands before the other in submit order
abbrev pub comes_before : LogEntry → LogEntry → Bool
comes_before a b = submits_before (submit_of a) (number_of_entry a) (submit_of b) (number_of_entry b)

-- each entry comes before the next
abbrev pub IsRising : List LogEntry → Type 0
IsRising [] = Unit {0}
IsRising (entry ∷ []) = Unit {0}
IsRising (entry ∷ next ∷ entries) = IsTrue (comes_before entry next) × IsRising (next ∷ entries)

-- an entry put behind those that come before it
abbrev pub with_entry : LogEntry → List LogEntry → List LogEntry
with_entry new [] = new ∷ []
with_entry new (entry ∷ entries) =
    if comes_before entry new then entry ∷ with_entry new entries else new ∷ entry ∷ entries

-- the entries of a collection, arranged by submit second and job number
abbrev pub log_of : List LogEntry → List LogEntry
log_of [] = []
log_of (entry ∷ entries) = with_entry entry (log_of entries)
