-- What is read of a table.
use Rattle.std.proofs.Common.{◌≡◌, ℕ, List, [], ◌∷◌, Option, Some, None, Bool, true, false, ◌==◌, Bor, option_copied, slice_get, is_some, not, IsTrue, refl, sym, subst, ◌∙◌, if◌then◌else◌}
use Rattle.std.specs.List.{AllByRecursion}
use Rattle.std.proofs.lemmas.Bool.{true≢false}
use Rattle.swf_text.specs.Entry.{LogEntry, number_of_entry}
use Rattle.job_table.specs.Edit.{entry_of}
use Rattle.job_table.specs.Table.{IsTable}
use Rattle.job_table.proofs.Tables.{table-drop}

-- what holds of all entries holds of the one that is found by its number
pub found-sound : (n : ℕ) (P : LogEntry → Type 0) (xs : List LogEntry) (e : LogEntry) → AllByRecursion P xs → entry_of n xs ≡ Some e → P e
found-sound n P [] e a h = cc
found-sound n P (x ∷ xs) e a h = go (number_of_entry x == n) h (found-sound n P xs e a.1)
  where
    go : (b : Bool) → (if b then Some x else entry_of n xs) ≡ Some e → (entry_of n xs ≡ Some e → P e) → P e
    go true k i = let same : x ≡ e = cc in subst P same a.0
    go false k i = i k

-- the entries of a table after the first are a table
pub next-table : (es rest : List LogEntry) (e : LogEntry) → es ≡ e ∷ rest → IsTable es → IsTable rest
next-table es rest e h t = table-drop 1 (e ∷ rest) (subst IsTable h t)

-- where one of two lists has come to its end, they are equal exactly if the other has too
pub same-end : (some others all-some all-others : List LogEntry) (p : Option (Bor LogEntry)) (r : Bool) → some ≡ [] → option_copied p ≡ slice_get others 0 → is_some p ≡ not r
    → (some ≡ others → all-some ≡ all-others) × (all-some ≡ all-others → some ≡ others) → (IsTrue r → all-some ≡ all-others) × (all-some ≡ all-others → IsTrue r)
same-end some [] a b None true e p k inv = ((λ t. inv.0 e), (λ t. refl))
same-end some [] a b None false e p k inv = cc
same-end some [] a b (Some y) r e p k inv = cc
same-end some (x ∷ others) a b None r e p k inv = cc
same-end some (x ∷ others) a b (Some y) true e p k inv = cc
same-end some (x ∷ others) a b (Some y) false e p k inv = ((λ t. absurd (true≢false (sym t))), (λ t. let never : [] ≡ x ∷ others = sym e ∙ inv.1 t in cc))
