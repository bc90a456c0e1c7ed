-- Lists of which each element and the next stand in order: entries rise where their pairs do.
use Rattle.std.proofs.Common.{◌≡◌, ℕ, zero, suc, ◌+◌, ◌<◌, ◌↔◌, IsTrue, Bool, true, false, nat_le, List, [], ◌∷◌, length, map, get_or, refl, subst, sym, ◌∙◌, arith}
use Rattle.std.specs.List.{IsAllAdjacentAnswer, AllAdjacentBelow}
use Rattle.std.specs.List.Sorted.{IsNonDecreasingBy}
use Rattle.std.proofs.lemmas.Bool.{false≢true, leb-true}
use Rattle.std.proofs.lemmas.List.Sorted.{IsNonDecreasingBy-from_all_adjacent, IsPermutation-refl}
use Rattle.chunks.specs.declared.numbered.Numbered.{Numbered}
use Rattle.swf_text.specs.Entry.{LogEntry}
use Rattle.swf_text.specs.Log.{IsLog, IsRising, log_of}
use Rattle.job_table.specs.Table.{AreInOrder, number_in, pair_before, pair_of}
use Rattle.job_table.proofs.LogOrder.{log-is-the-only-one}
use Rattle.job_table.proofs.Tables.{log-counted}

-- where each pair's number was found no greater than the next one's, the numbers do not fall
pub pairs-up : (xs : List Numbered) (r : Bool) → IsAllAdjacentAnswer (λ x y b. b ≡ nat_le (number_in x) (number_in y)) xs r → r ≡ true → IsNonDecreasingBy number_in xs
pairs-up xs true h e = IsNonDecreasingBy-from_all_adjacent number_in xs (λ k d l. leb-true (number_in (get_or xs k d)) (number_in (get_or xs (k + 1) d)) (sym (h k d l)))
pairs-up xs false h e = absurd (false≢true e)

next-pair : (b : Bool) (e f : Numbered) (ps : List Numbered) (k : ℕ) (d : Numbered) → b ≡ pair_before (get_or (e ∷ f ∷ ps) (suc k) d) (get_or (e ∷ f ∷ ps) (suc k + 1) d) → b ≡ pair_before (get_or (f ∷ ps) k d) (get_or (f ∷ ps) (k + 1) d)
next-pair b e f ps k d h =
    let next : suc k + 1 ≡ suc (k + 1) = omega arith in
    subst (λ (j : ℕ). b ≡ pair_before (get_or (f ∷ ps) k d) (get_or (e ∷ f ∷ ps) j d)) next h

in-order-all : (ps : List Numbered) → AllAdjacentBelow (λ x y. true ≡ pair_before x y) ps (length ps) → AreInOrder ps
in-order-all [] h = tt
in-order-all (e ∷ []) h = tt
in-order-all (e ∷ f ∷ ps) h = (sym (h 0 e (omega arith)), in-order-all (f ∷ ps) (λ k d l. next-pair true e f ps k d (h (suc k) d (omega arith))))

falls-at : (ps : List Numbered) (k : ℕ) → k + 1 < length ps → ((d : Numbered) → false ≡ pair_before (get_or ps k d) (get_or ps (k + 1) d)) → AreInOrder ps → ⊥
falls-at [] k l h up = absurd (omega (arith, l))
falls-at (e ∷ []) k l h up = absurd (omega (arith, l))
falls-at (e ∷ f ∷ ps) zero l h up = absurd (false≢true (h e ∙ up.0))
falls-at (e ∷ f ∷ ps) (suc k) l h up = falls-at (f ∷ ps) k (omega (arith, l)) (λ d. next-pair false e f ps k d (h d)) up.1

-- the answer whether each pair stands before the next is true exactly if the pairs are in order
pub pairs-rise : (ps : List Numbered) (r : Bool) → IsAllAdjacentAnswer (λ x y b. b ≡ pair_before x y) ps r → IsTrue r ↔ AreInOrder ps
pairs-rise ps true h = (λ _. in-order-all ps h, λ _. refl)
pairs-rise ps false h = (λ e. absurd (false≢true e), λ up. absurd (falls-at ps h.0 h.1 h.2 up))

rise-by-pairs : (es : List LogEntry) → AreInOrder (map pair_of es) → IsRising es
rise-by-pairs [] up = tt
rise-by-pairs (e ∷ []) up = tt
rise-by-pairs (e ∷ f ∷ es) up = (up.0, rise-by-pairs (f ∷ es) up.1)

-- entries of a log whose pairs are in order are the log
pub rising-is : (es : List LogEntry) (ps : List Numbered) → IsLog es → ps ≡ map pair_of es → AreInOrder ps → es ≡ log_of es
rising-is es ps l is up = log-is-the-only-one es es (log-counted es l) (IsPermutation-refl es) (rise-by-pairs es (subst AreInOrder is up))
