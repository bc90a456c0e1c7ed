-- The job numbers of the entries that were read: those that were greater than all before them when
-- they came, and the others.
use Rattle.std.specs.Prelude.{◌≡◌, ℕ, ◌≤◌, ◌<◌, List, length, Bool, ◌||◌, nat_eq, slice_index_or}
use Rattle.std.specs.List.{list_any}
use Rattle.std.specs.Ordering.{nat_cmp}
use Rattle.std.specs.BTreeSet.{BTreeSet, contains}
use Rattle.swf_text.specs.Entry.{LogEntry, has_number}

-- a set of job numbers
abbrev pub Numbers : Type 0
Numbers = BTreeSet ℕ

-- the number is one of them
abbrev pub has_seen : List ℕ → Numbers → ℕ → Bool
has_seen rising others n = list_any (λ m. nat_eq m n) rising || contains nat_cmp others n

-- none is followed by a smaller one
abbrev pub AreRising : List ℕ → Type 0
AreRising numbers = (i j : ℕ) → i ≤ j → j < length numbers → slice_index_or numbers i 0 ≤ slice_index_or numbers j 0

-- they are the numbers of the entries
pub record IsIndex (rising : List ℕ) (others : Numbers) (entries : List LogEntry) : Type 0 where
  pub rise : AreRising rising
  pub known : (n : ℕ) → has_seen rising others n ≡ list_any (has_number n) entries
