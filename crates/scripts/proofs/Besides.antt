-- Views of scenarios that stand side by side, one after another: the next one has its line, or none if it was dropped, or is refused.
use Rattle.std.proofs.Common.{◌≡◌, ℕ, ◌+◌, List, [], ◌∷◌, ◌++◌, take, drop, suc, zero, append-nil, append_assoc, refl, sym, ◌∙◌, ap, subst, inr}
use Rattle.std.specs.Prelude.{Option, Some, Ok, Err, slice_get}
use Rattle.std.proofs.lemmas.List.{take-append-drop}
use Rattle.scenarios.specs.ScenarioList.{Listed}
use Rattle.version_book.specs.declared.faults.ViewFault.{ViewFault}
use Rattle.version_book.specs.declared.refusal.Refusal.{Refusal}
use Rattle.scripts.specs.Analysts.{AreBeside, NotBeside, StandsSo, lines_of}
use Rattle.version_book.specs.Rules.{Rules}
use Rattle.scripts.specs.declared.views.Beside.{Beside}
use Rattle.scripts.proofs.Sides.{take-more}

beside-more : {S : Type 0} (rules : Rules S) (A : Type 0) (old mid new : S) (front : List Listed) (lines : List (List ℕ)) (s : Listed) (found : Option (Beside A))
    → AreBeside rules A old front lines mid → StandsSo rules A mid s.id (Ok found) new → AreBeside rules A old (front ++ s ∷ []) (lines ++ lines_of s.name found) new
beside-more {S} rules A old mid new [] lines s found h one = (
  new,
  found,
  [],
  subst (λ (m : S). StandsSo rules A m s.id (Ok found) new) h.1 one,
  (refl, refl),
  ap (λ (ls : List (List ℕ)). ls ++ lines_of s.name found) h.0 ∙ sym (append-nil (lines_of s.name found)),
)
beside-more rules A old mid new (t ∷ front) lines s found h one = (
  h.0,
  h.1,
  h.2 ++ lines_of s.name found,
  h.3,
  beside-more rules A h.0 mid new front h.2 s found h.4 one,
  ap (λ (ls : List (List ℕ)). ls ++ lines_of s.name found) h.5 ∙ append_assoc (lines_of t.name h.1) h.2 (lines_of s.name found),
)

-- scenarios up to a place were viewed, and with a view of the one there those up to the next place were
pub beside-next : {S : Type 0} (rules : Rules S) (A : Type 0) (old mid new : S) (scenarios : List Listed) (k : ℕ) (lines : List (List ℕ)) (s : Listed) (found : Option (Beside A))
    → slice_get scenarios k ≡ Some s → AreBeside rules A old (take k scenarios) lines mid → StandsSo rules A mid s.id (Ok found) new → AreBeside rules A old (take (k + 1) scenarios) (lines ++ lines_of s.name found) new
beside-next rules A old mid new scenarios k lines s found is h one =
    subst (λ (front : List Listed). AreBeside rules A old front (lines ++ lines_of s.name found) new) (sym (take-more scenarios k s is)) (beside-more rules A old mid new (take k scenarios) lines s found h one)

drop-next : {X : Type 0} (xs : List X) (k : ℕ) (x : X) → slice_get xs k ≡ Some x → drop k xs ≡ x ∷ drop (suc k) xs
drop-next [] k x is = cc
drop-next (y ∷ xs) zero x is = cc
drop-next (y ∷ xs) (suc k) x is = drop-next xs k x is

-- where the next view is refused, the scenarios don't stand side by side
pub refused-next : {S : Type 0} (rules : Rules S) (A : Type 0) (old mid new : S) (scenarios : List Listed) (k : ℕ) (lines : List (List ℕ)) (s : Listed) (refusal : Refusal ViewFault)
    → slice_get scenarios k ≡ Some s → AreBeside rules A old (take k scenarios) lines mid → StandsSo rules A mid s.id (Err refusal) new → NotBeside rules A old scenarios refusal new
refused-next rules A old mid new scenarios k lines s refusal is h one =
    (take k scenarios, drop k scenarios, lines, mid, sym (take-append-drop k scenarios), h, inr (s, drop (suc k) scenarios, drop-next scenarios k s is, one))
