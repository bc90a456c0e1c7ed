-- Scenarios side by side: one more of a list's first, the report of their lines, and a view, which changes no list.
use Rattle.std.proofs.Common.{◌≡◌, ℕ, ◌+◌, List, [], ◌∷◌, ◌++◌, map, take, suc, zero, refl, sym, ◌∙◌, ap, ap₂, inr, arith}
use Rattle.std.specs.Prelude.{codes, slice_get, Some}
use Rattle.std.specs.List.{flat_map}
use Rattle.std.specs.Fmt.{decimal}
use Rattle.std.proofs.lemmas.List.{length-map}
use Rattle.scenarios.specs.ScenarioList.{Listed}
use Rattle.book_machine.specs.Machine.{Machine}
use Rattle.report.specs.declared.side.SideLine.{SideLine}
use Rattle.report.specs.Side.{side_line, side_text}
use Rattle.scripts.specs.Lines.{refused}
use Rattle.version_book.specs.Session.{Session}
use Rattle.scripts.specs.Steps.{IsSeen, side_of}
use Rattle.scripts.proofs.Shorts.{IsSide}

take-next : {X : Type 0} (xs : List X) (k : ℕ) (x : X) → slice_get xs k ≡ Some x → take (suc k) xs ≡ take k xs ++ x ∷ []
take-next [] k x is = cc
take-next (y ∷ xs) zero x is = cc
take-next (y ∷ xs) (suc k) x is = ap (λ ys. y ∷ ys) (take-next xs k x is)

-- the first of a list, and its next one behind them, are one more of its first
pub take-more : {X : Type 0} (xs : List X) (k : ℕ) (x : X) → slice_get xs k ≡ Some x → take (k + 1) xs ≡ take k xs ++ x ∷ []
take-more xs k x is =
    let e : k + 1 ≡ suc k = omega arith in
    ap (λ (n : ℕ). take n xs) e ∙ take-next xs k x is

texts-of : {A : Type 0} (ls : List (SideLine A)) → flat_map (λ (line : List ℕ). line) (map side_line ls) ≡ flat_map side_line ls
texts-of [] = refl
texts-of (l ∷ ls) = ap (λ (t : List ℕ). side_line l ++ t) (texts-of ls)

-- the report on scenarios side by side says how many lines there are, and then the lines
pub side-text : {A : Type 0} (ls : List (SideLine A)) → side_text ls ≡ side_of (map side_line ls)
side-text ls = ap₂ (λ (n : ℕ) (t : List ℕ). codes "side scenarios " ++ decimal n ++ codes "\n" ++ t) (sym (length-map ls side_line)) (sym (texts-of ls))

-- out of memory before the first view is a response to `side`
pub side-first : (old new : Session) (text : List ℕ) → new ≡ old → text ≡ refused (codes "Memory") → IsSide old text new
side-first old new text same is = ([], old.machine.listing.scenarios, [], refl, (refl, same), inr (inr is))

-- a view changes no list
pub listing-kept : (old new : Session) (s : Listed) (line : List ℕ) → IsSeen old s line new → new.machine.listing ≡ old.machine.listing
listing-kept old new s line h = ap (λ (m : Machine). m.listing) h.1.machine
