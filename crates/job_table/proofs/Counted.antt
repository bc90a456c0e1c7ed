-- What an edit counts at least, and at most: a changed entry moves exactly if it is submitted in another second than before.
use Rattle.std.proofs.Common.{◌≡◌, ℕ, ◌≤◌, refl, List, [], ◌∷◌, Some, Bool, true, false, ◌==◌, not, length, ℤ, ap, sym, ◌∙◌, arith, if◌then◌else◌}
use Rattle.std.proofs.lemmas.Bool.Decides.{nat_tests}
use Rattle.swf_text.specs.Entry.{LogEntry, submit_of}
use Rattle.job_table.specs.Edit.{Insert, Change, entry_of, with_field}
use Rattle.job_table.specs.Counted.{fewest, most, moves}

one-or : (a b count : ℕ) (t : Bool) → a ≤ count → b ≤ count → (if t then a else b) ≤ count
one-or a b count true h k = h
one-or a b count false h k = k

-- a count of at least one, and of three where the log has an entry, reaches the fewest that an insertion counts
pub fewest-insert : (e : LogEntry) (log : List LogEntry) (count : ℕ) → 1 ≤ count → (1 ≤ length log → 3 ≤ count) → fewest (Insert e) log ≤ count
fewest-insert e [] count one more = one
fewest-insert e (x ∷ log) count one more = one-or 1 3 count (length (x ∷ log) == 0) one (more (omega arith))

-- a count of at least two, and of three where the log has two entries or more, reaches the fewest that a change counts
pub fewest-change : (n place : ℕ) (value : ℤ) (log : List LogEntry) (count : ℕ) → 2 ≤ count → (2 ≤ length log → 3 ≤ count) → fewest (Change n place value) log ≤ count
fewest-change n place value [] count two three = omega (arith, two)
fewest-change n place value (x ∷ []) count two three = one-or 2 1 count (moves place value (entry_of n (x ∷ []))) two (omega (arith, two))
fewest-change n place value (x ∷ y ∷ log) count two three =
    one-or (if length (x ∷ y ∷ log) == 1 then 2 else 3) 1 count (moves place value (entry_of n (x ∷ y ∷ log))) (one-or 2 3 count (length (x ∷ y ∷ log) == 1) two (three (omega arith))) (omega (arith, two))

inner : (a b : ℕ) → Some a ≡ Some b → a ≡ b
inner a b h = cc

module _ (n place : ℕ) (value : ℤ) (log : List LogEntry) (was : LogEntry) (second at : ℕ) (now : LogEntry) (there : entry_of n log ≡ Some was) (is : now ≡ with_field place value was) (seen : Some second ≡ Some (submit_of was)) (put : at ≡ submit_of now) where
  moving : moves place value (entry_of n log) ≡ not (at == second)
  moving =
      let new : submit_of (with_field place value was) ≡ at = ap submit_of (sym is) ∙ sym put in
      let old : submit_of was ≡ second = sym (inner second (submit_of was) seen) in
      ap (moves place value) there ∙ rw (new, old) refl

  -- a count of at least one reaches the fewest that a change counts where the entry keeps its submit second
  pub fewest-in-place : (count : ℕ) → at ≡ second → 1 ≤ count → fewest (Change n place value) log ≤ count
  fewest-in-place count same one = let still : not (at == second) ≡ false = grind (arith, nat_tests) in rw (moving, still) one

  -- a count of at most 257 is within the most that a change counts where the entry keeps its submit second
  pub most-in-place : (count : ℕ) → at ≡ second → count ≤ 257 → count ≤ most (Change n place value) log
  most-in-place count same few = let still : not (at == second) ≡ false = grind (arith, nat_tests) in rw (moving, still) few

  -- a count of at most 898 is within the most that a change counts where the entry gets another submit second
  pub most-moved : (count : ℕ) → (at ≡ second → ⊥) → count ≤ 898 → count ≤ most (Change n place value) log
  most-moved count other few = let moved : not (at == second) ≡ true = grind (arith, nat_tests) in rw (moving, moved) few
