-- No line of a log is a mark: a mark is one word that begins with a percent sign, so it is no blank line, no comment and no job.
use Rattle.std.proofs.Common.{◌≡◌, ℕ, Bool, true, false, ◌||◌, List, [], ◌∷◌, length, Some, refl, sym, subst, ◌∙◌, inl, inr, ◌⊎◌, arith}
use Rattle.std.specs.Prelude.{slice_get}
use Rattle.std.specs.List.{list_all, list_any}
use Rattle.std.specs.Str.{bytes_eq}
use Rattle.std.proofs.lemmas.Bool.{false_from_ne_true, true≢false}
use Rattle.std.proofs.lemmas.Slice.Eq.{bytes_eq-Decides}
use Rattle.swf_text.specs.declared.line.LineRead.{LineRead}
use Rattle.swf_text.specs.declared.line.LineRead.TheVariants as read
use Rattle.swf_text.specs.Line.{IsReadAs, fields, from_first, is_blank, without_returns}
use Rattle.swf_text.specs.Text.{LogText, empty, lines}
use Rattle.swf_text.specs.Grammar.{AddsLine, AddsRead, IsText, IsTextFrom}
use Rattle.easybook.specs.Split.{is_mark}
use Rattle.easybook.proofs.Unmarked.{both}

or-else : (a b : Bool) → a ≡ false → a || b ≡ true → b ≡ true
or-else false b p h = h
or-else true b p h = absurd cc

mark-is : (line : List ℕ) → is_mark line ≡ true → (line ≡ 37 ∷ []) ⊎ (line ≡ 37 ∷ 13 ∷ [])
mark-is line h = go (bytes_eq line (37 ∷ [])) refl
  where
    go : (b : Bool) → bytes_eq line (37 ∷ []) ≡ b → (line ≡ 37 ∷ []) ⊎ (line ≡ 37 ∷ 13 ∷ [])
    go true e = inl ((bytes_eq-Decides line (37 ∷ [])).0 e)
    go false e = inr ((bytes_eq-Decides line (37 ∷ 13 ∷ [])).0 (or-else (bytes_eq line (37 ∷ [])) (bytes_eq line (37 ∷ 13 ∷ [])) e h))

record IsPercent (line : List ℕ) : Type 0 where
  filled : list_all is_blank (without_returns line) ≡ false
  first : slice_get (from_first (without_returns line)) 0 ≡ Some 37
  alone : length (fields (without_returns line)) ≡ 1

no-semicolon : (a b : ℕ) → a ≡ 37 → b ≡ 59 → Some a ≡ Some b → ⊥
no-semicolon a b p q same = let e : a ≡ b = cc in absurd (omega (arith, p, q, e))

not-eighteen : (n : ℕ) → n ≡ 1 → n ≡ 18 → ⊥
not-eighteen n one many = absurd (omega (arith, one, many))

adds-nothing : (line : List ℕ) → IsPercent line → (t u : LogText) (r : LineRead) → IsReadAs line r → AddsRead t line r u → ⊥
adds-nothing line p t u read.Blank is adds = true≢false (sym is.1 ∙ p.filled)
adds-nothing line p t u read.Comment is adds = no-semicolon 37 59 refl refl (sym p.first ∙ is.1)
adds-nothing line p t u (read.Job job) is adds = not-eighteen (length (fields (without_returns line))) p.alone is.eighteen
adds-nothing line p t u (read.Fault fault) is adds = adds

percent : IsPercent (37 ∷ [])
percent = record { filled = refl; first = refl; alone = refl }

returned : IsPercent (37 ∷ 13 ∷ [])
returned = record { filled = refl; first = refl; alone = refl }

mark-adds : (t u : LogText) (line : List ℕ) → (line ≡ 37 ∷ []) ⊎ (line ≡ 37 ∷ 13 ∷ []) → AddsLine t line u → ⊥
mark-adds t u line (inl e) h = adds-nothing line (subst IsPercent (sym e) percent) t u h.read h.is h.adds
mark-adds t u line (inr e) h = adds-nothing line (subst IsPercent (sym e) returned) t u h.read h.is h.adds

text-unmarked : (ls : List (List ℕ)) (t u : LogText) → IsTextFrom t ls u → list_any is_mark ls ≡ false
text-unmarked [] t u h = refl
text-unmarked (line ∷ ls) t u h =
    both (is_mark line) (list_any is_mark ls) (false_from_ne_true _ (λ m. mark-adds t h.0 line (mark-is line m) h.1)) (text-unmarked ls h.0 u h.2)

-- no line of a log that is read as a text is a mark
pub unmarked : (log : List ℕ) (t : LogText) → IsText (lines log) t → list_any is_mark (lines log) ≡ false
unmarked log t h = text-unmarked (lines log) empty t h
