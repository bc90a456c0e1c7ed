-- A log is the one arrangement of its entries that rises by submit second and job number.
use Rattle.std.specs.Prelude.{◌≡◌, ℕ, ◌≤◌, nat_eq, List, IsPermutation, count_by}
use Rattle.swf_text.specs.Entry.{LogEntry, number_of_entry}
use Rattle.swf_text.specs.Log.{IsRising, log_of}

-- no job number stands twice among these entries
abbrev pub IsDistinct : List LogEntry → Type 0
IsDistinct entries = (n : ℕ) → count_by (λ e. nat_eq (number_of_entry e) n) entries ≤ 1

-- the log of a collection has the same entries, and rises
abbrev pub LogIsRising : Type 0
LogIsRising = (entries : List LogEntry) → IsDistinct entries → IsPermutation entries (log_of entries) × IsRising (log_of entries)

-- and no other arrangement of them does
abbrev pub LogIsTheOnlyOne : Type 0
LogIsTheOnlyOne = (entries arranged : List LogEntry) → IsDistinct entries → IsPermutation entries arranged → IsRising arranged → arranged ≡ log_of entries
