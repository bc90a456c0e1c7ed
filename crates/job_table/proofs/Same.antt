-- What tests of equality say of entries.
use Rattle.std.proofs.Common.{◌≡◌, ℕ, zero, suc, ◌+◌, ◌<◌, ◌≤◌, ◌↔◌, List, [], ◌∷◌, length, take, slice_index_or, Bool, false, ◌&&◌, Decides, IsTrue, map, ℤ, refl, ap, sym, arith, ◌∙◌}
use Rattle.std.proofs.Math.Bool.{and-true, and_assoc}
use Rattle.std.proofs.lemmas.List.{take_all}
use Rattle.std.specs.Ordering.{int_eq}
use Rattle.std.specs.Cmp.Lexicographic.{pointwise}
use Rattle.std.proofs.lemmas.Bool.{true≢false}
use Rattle.std.proofs.lemmas.Bool.Decides.{Decides-int_eq}
use Rattle.std.proofs.lemmas.Slice.Eq.{slice_eq-Decides}
use Rattle.swf_text.specs.declared.line.Fields.{Fields}
use Rattle.swf_text.specs.Entry.{LogEntry, values}

abbrev pub same_line : Fields → Fields → Bool
same_line a b = pointwise int_eq a.0 b.0

line-from : (a b : Fields) → a.0 ≡ b.0 → a ≡ b
line-from a b e = ap (λ (vs : List ℤ). let f : Fields = record { 0 = vs } in f) e

line-Decides : (a b : Fields) → Decides (same_line a b) (a ≡ b)
line-Decides a b =
    let d = slice_eq-Decides Decides-int_eq a.0 b.0 (same_line a b) refl in
    ((λ t. line-from a b (d.0 t)), (λ e. d.1 (ap values e)))

equal-next : (k : ℕ) (xs ys : List ℤ) (x y : ℤ) → k < length xs → k < length ys → pointwise int_eq (take (suc k) xs) (take (suc k) ys) ≡ (pointwise int_eq (take k xs) (take k ys) && int_eq (slice_index_or xs k x) (slice_index_or ys k y))
equal-next k [] ys x y l m = absurd (omega (arith, l))
equal-next k (a ∷ xs) [] x y l m = absurd (omega (arith, m))
equal-next zero (a ∷ xs) (b ∷ ys) x y l m = and-true (int_eq a b)
equal-next (suc k) (a ∷ xs) (b ∷ ys) x y l m =
    ap (λ (t : Bool). int_eq a b && t) (equal-next k xs ys x y (omega (arith, l)) (omega (arith, m)))
    ∙ sym (and_assoc (int_eq a b) (pointwise int_eq (take k xs) (take k ys)) (int_eq (slice_index_or xs k x) (slice_index_or ys k y)))

-- the tests of two lists of values up to a place, and of the next two values, are the test up to the next place
pub equal-more : (k : ℕ) (xs ys : List ℤ) (x y : ℤ) (same next : Bool) → k < length xs → length xs ≡ length ys → same ≡ pointwise int_eq (take k xs) (take k ys) → x ≡ slice_index_or xs k x → y ≡ slice_index_or ys k y → next ≡ int_eq x y
    → (same && next) ≡ pointwise int_eq (take (k + 1) xs) (take (k + 1) ys)
equal-more k xs ys x y same next l m e p q f =
    let after : k + 1 ≡ suc k = omega arith in
    let pair : next ≡ int_eq (slice_index_or xs k x) (slice_index_or ys k y) = f ∙ ap (λ (z : ℤ). int_eq z y) p ∙ ap (int_eq (slice_index_or xs k x)) q in
    ap (λ (t : Bool). t && next) e ∙ ap (λ (t : Bool). pointwise int_eq (take k xs) (take k ys) && t) pair ∙ sym (equal-next k xs ys x y l (omega (arith, l, m))) ∙ ap (λ (n : ℕ). pointwise int_eq (take n xs) (take n ys)) (sym after)

-- once all values of two lists of one length are tested, the test holds exactly if the lists are equal
pub equal-all : (k : ℕ) (xs ys : List ℤ) (same : Bool) → length xs ≤ k → length xs ≡ length ys → same ≡ pointwise int_eq (take k xs) (take k ys) → IsTrue same ↔ (xs ≡ ys)
equal-all k xs ys same l m e =
    let whole : same ≡ pointwise int_eq xs ys = e ∙ ap (λ (zs : List ℤ). pointwise int_eq zs (take k ys)) (take_all k xs l) ∙ ap (pointwise int_eq xs) (take_all k ys (omega (arith, l, m))) in
    slice_eq-Decides Decides-int_eq xs ys same whole

-- lists of different lengths are not equal
pub other-lengths : (xs ys : List ℤ) → (length xs ≡ length ys → ⊥) → IsTrue false ↔ (xs ≡ ys)
other-lengths xs ys n = ((λ f. absurd (true≢false (sym f))), (λ e. absurd (n (ap length e))))

lines-from : (ps qs : List Fields) → map values ps ≡ map values qs → ps ≡ qs
lines-from [] [] e = refl
lines-from [] (q ∷ qs) e = cc
lines-from (p ∷ ps) [] e = cc
lines-from (p ∷ ps) (q ∷ qs) e =
    let first : p.0 ≡ q.0 = cc in
    let rest : map values ps ≡ map values qs = cc in
    let a : p ≡ q = line-from p q first in
    let b : ps ≡ qs = lines-from ps qs rest in
    cc

module _ (one other : LogEntry) where
  -- entries with the same summary line
  pub same-entry : (ps qs : List Fields) (r : Bool) → one.main ≡ other.main → map values ps ≡ one.parts → map values qs ≡ other.parts → r ≡ pointwise same_line ps qs → (IsTrue r → one ≡ other) × (one ≡ other → IsTrue r)
  same-entry ps qs r main p q is =
      let d = slice_eq-Decides line-Decides ps qs r is in
      ((λ t. joined main (sym p ∙ ap (map values) (d.0 t) ∙ q)), (λ e. d.1 (lines-from ps qs (p ∙ ap (λ (x : LogEntry). x.parts) e ∙ sym q))))
    where
      joined : one.main ≡ other.main → one.parts ≡ other.parts → one ≡ other
      joined e f = ap (λ (vs : List ℤ). let x : LogEntry = record { main = vs; parts = one.parts } in x) e ∙ ap (λ (ls : List (List ℤ)). let x : LogEntry = record { main = other.main; parts = ls } in x) f
