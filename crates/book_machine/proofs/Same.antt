-- What the test of equality of two entries says: their lines are compared by their values.
use Rattle.std.proofs.Common.{◌≡◌, List, [], ◌∷◌, Bool, true, ◌&&◌, map, refl, ap, ap₂, ◌∙◌}
use Rattle.std.specs.Ordering.{int_eq}
use Rattle.std.specs.Cmp.Lexicographic.{pointwise}
use Rattle.swf_text.specs.declared.line.Fields.{Fields}
use Rattle.swf_text.specs.Entry.{LogEntry, values}
use Rattle.book_machine.specs.Same.{same_entry}

abbrev pub same_line : Fields → Fields → Bool
same_line a b = pointwise int_eq a.0 b.0

pointwise-values : (ps qs : List Fields) → pointwise same_line ps qs ≡ pointwise (pointwise int_eq) (map values ps) (map values qs)
pointwise-values [] [] = refl
pointwise-values [] (q ∷ qs) = refl
pointwise-values (p ∷ ps) [] = refl
pointwise-values (p ∷ ps) (q ∷ qs) = ap (λ b. same_line p q && b) (pointwise-values ps qs)

-- the test of two entries, by the lines that were read of them
pub entry-compared : (a b : LogEntry) (m n : Fields) (ps qs : List Fields) (r : Bool) → m.0 ≡ a.main → n.0 ≡ b.main → map values ps ≡ a.parts → map values qs ≡ b.parts → true ≡ same_line m n → r ≡ pointwise same_line ps qs → r ≡ same_entry a b
entry-compared a b m n ps qs r ma nb pa qb h is =
    is ∙ pointwise-values ps qs ∙ ap₂ (pointwise (pointwise int_eq)) pa qb
    ∙ ap (λ t. t && pointwise (pointwise int_eq) a.parts b.parts) (h ∙ ap₂ (pointwise int_eq) ma nb)
