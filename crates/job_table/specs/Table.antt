-- A job table: a log in its order, and an index of its jobs.
use Rattle.std.specs.Prelude.{◌≡◌, ℕ, ◌<◌, ◌==◌, nat_le, Bool, IsTrue, if◌then◌else◌, List, [], ◌∷◌, length, filter, find, Option, option_map}
use Rattle.chunks.specs.declared.numbered.Numbered.{Numbered}
use Rattle.swf_text.specs.Entry.{LogEntry, number_of_entry, submit_of}
use Rattle.swf_text.specs.Log.{IsLog, IsRising, submits_before}
use Rattle.job_table.specs.Edit.{entry_of}

-- a log whose entries stand by submit second, and of one second by job number
pub record IsTable (entries : List LogEntry) : Type 0 where
  pub log : IsLog entries
  pub rising : IsRising entries

-- the entries with this submit second or a later one, in their order
abbrev pub entries_from : ℕ → List LogEntry → List LogEntry
entries_from second log = filter (λ e. nat_le second (submit_of e)) log

-- the job number of a pair, and its submit second
abbrev pub number_in : Numbered → ℕ
number_in pair = pair.number

abbrev pub second_in : Numbered → ℕ
second_in pair = pair.submit

-- the pair of an entry
abbrev pub pair_of : LogEntry → Numbered
pair_of entry = record { number = number_of_entry entry; submit = submit_of entry }

-- the job of the one pair stands before the other's in submit order
abbrev pub pair_before : Numbered → Numbered → Bool
pair_before one other = submits_before one.submit one.number other.submit other.number

-- each of these pairs stands before the next so
abbrev pub AreInOrder : List Numbered → Type 0
AreInOrder [] = Unit {0}
AreInOrder (pair ∷ []) = Unit {0}
AreInOrder (pair ∷ next ∷ pairs) = IsTrue (pair_before pair next) × AreInOrder (next ∷ pairs)

-- the submit second that pairs give a job number, if any
abbrev pub second_of : List Numbered → ℕ → Option ℕ
second_of pairs n = option_map second_in (find (λ pair. number_in pair == n) pairs)

-- the number is below those of all these pairs
abbrev pub IsBelow : ℕ → List Numbered → Type 0
IsBelow n [] = Unit {0}
IsBelow n (pair ∷ pairs) = (n < number_in pair) × IsBelow n pairs

-- each pair has a lower number than all later ones
abbrev pub NumbersRise : List Numbered → Type 0
NumbersRise [] = Unit {0}
NumbersRise (pair ∷ pairs) = IsBelow (number_in pair) pairs × NumbersRise pairs

-- the new pairs rise by number, and give each number what the old ones gave it, but this one that submit second, or none
pub record SetsSecond (old : List Numbered) (number : ℕ) (second : Option ℕ) (new : List Numbered) : Type 0 where
  pub rising : NumbersRise new
  pub gives : (n : ℕ) → second_of new n ≡ (if number == n then second else second_of old n)

-- the pairs rise by number, give the submit second of each entry by its job number, and have no other number
pub record IsIndex (pairs : List Numbered) (entries : List LogEntry) : Type 0 where
  pub rising : NumbersRise pairs
  pub gives : (n : ℕ) → second_of pairs n ≡ option_map submit_of (entry_of n entries)

-- what a table stores: a log in its order, its index and its length
pub record IsStored (entries : List LogEntry) (pairs : List Numbered) (len : ℕ) : Type 0 where
  pub table : IsTable entries
  pub index : IsIndex pairs entries
  pub count : len ≡ length entries
