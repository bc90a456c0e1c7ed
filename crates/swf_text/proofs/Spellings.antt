-- The canonical spelling of a value spells it: the zeros left out at the end of the six decimals count for nothing.
use Rattle.std.proofs.Common.{◌≡◌, ℕ, zero, suc, ◌+◌, ◌-◌, ◌*◌, ◌/◌, ◌%◌, ◌<◌, ◌≤◌, ◌^◌, Bool, true, cond, eqb, ◌&&◌, List, [], ◌∷◌, length, get_or, take, reverse, Option, Some, None, ℤ, pos, negsuc, refl, sym, ap, ◌∙◌, arith, rules, inl, inr}
use Rattle.std.specs.Prelude.{IfSome, IsTrue, nat_abs}
use Rattle.std.specs.List.{list_all, suffix_len}
use Rattle.std.specs.Char.{is_ascii_digit}
use Rattle.std.specs.Fmt.{decimal as decimal_text}
use Rattle.std.proofs.lemmas.Grind.{common_steps}
use Rattle.std.proofs.lemmas.Fmt.{decimal_by_steps, decimal_nonempty}
use Rattle.std.proofs.lemmas.Bool.{lt-ltb, cases_Bool, cases_lt, eqb-true, eqb-false}
use Rattle.std.proofs.lemmas.List.Sums.{fold-append, prefix_len_passes}
use Rattle.std.proofs.lemmas.List.Folds.{list_all-append}
use Rattle.std.proofs.lemmas.List.{get_or-take, get_or_past, length-take, get_or-reverse, nil_from_length}
use Rattle.swf_text.specs.Number.{Spells, digits_value, are_digits, decimal_at, millionths_of, six_digits, without_zeros, is_zero, canonical, canonical_parts, signed, magnitude, greatest, number_of, fraction_value, is_below_zero}
use Rattle.swf_text.proofs.Numbers.{number_of-Spells, and_first, and_second}

and_true : {a b : Bool} → a ≡ true → b ≡ true → (a && b) ≡ true
and_true {a} {b} p q = rw (p, q) refl

ne_zero : (n : ℕ) → (n ≡ 0 → ⊥) → 0 < n
ne_zero zero h = absurd (h refl)
ne_zero (suc n) h = omega arith

digit_tests : (n : ℕ) → n < 10 → is_ascii_digit (48 + n) ≡ true
digit_tests n lt = grind (arith, common_steps)

abbrev pub Spelled : ℕ → List ℕ → Type 0
Spelled n ds = (list_all is_ascii_digit ds ≡ true) × (digits_value ds ≡ n)

-- the decimal text of a number below 2^64 is digits alone, and their value is the number
pub spelled : (n : ℕ) → n < 2 ^ 64 → Spelled n (decimal_text n)
spelled n lt = decimal_by_steps Spelled
    (λ n small. (rw (digit_tests n small) refl, omega arith))
    (λ n ds big below. (
      rw (list_all-append is_ascii_digit ds ((48 + n % 10) ∷ []), below.0, digit_tests (n % 10) (omega arith)) refl,
      fold-append (λ m digit. 10 * m + (digit - 48)) 0 ds ((48 + n % 10) ∷ []) ∙ rw (below.1) (omega arith),
    ))
    n lt

whole_digits : (n : ℕ) → n < 2 ^ 64 → are_digits (decimal_text n) ≡ true
whole_digits n lt = rw (lt-ltb 0 (length (decimal_text n)) (decimal_nonempty n lt), (spelled n lt).0) refl

zeros_at_end : (ds : List ℕ) (k : ℕ) → length ds - suffix_len is_zero ds ≤ k → get_or ds k 48 ≡ 48
zeros_at_end ds k le = elim (cases_lt k (length ds)) [
  | inl lt ↦
      let j = length ds - 1 - k in
      let back : length ds - 1 - j ≡ k = omega arith in
      let zero : is_zero (get_or (reverse ds) j 48) ≡ true = prefix_len_passes is_zero (reverse ds) j 48 (omega arith) in
      sym (get_or-reverse ds j 48 (omega arith) ∙ ap (λ (i : ℕ). get_or ds i 48) back) ∙ eqb-true _ 48 zero
  | inr past ↦ get_or_past ds k 48 past
]

same_decimal : (ds : List ℕ) (k : ℕ) → decimal_at (without_zeros ds) k ≡ decimal_at ds k
same_decimal ds k =
    let n = length ds - suffix_len is_zero ds in
    elim (cases_lt k n) [
      | inl lt ↦ ap (λ (d : ℕ). d - 48) (get_or-take n ds k 48 lt)
      | inr past ↦ ap (λ (d : ℕ). d - 48) (get_or_past (take n ds) k 48 (omega (arith, length-take n ds)) ∙ sym (zeros_at_end ds k past))
    ]

six_value : (n : ℕ) → n < 1000000 → millionths_of (six_digits n) ≡ n
six_value n lt = omega arith

decimals_value : (n : ℕ) → n < 1000000 → millionths_of (without_zeros (six_digits n)) ≡ n
decimals_value n lt = rw (same_decimal (six_digits n) 0, same_decimal (six_digits n) 1, same_decimal (six_digits n) 2, same_decimal (six_digits n) 3, same_decimal (six_digits n) 4, same_decimal (six_digits n) 5) (six_value n lt)

list_all-take : (p : ℕ → Bool) (n : ℕ) (ds : List ℕ) → list_all p ds ≡ true → list_all p (take n ds) ≡ true
list_all-take p zero ds h = refl
list_all-take p (suc n) [] h = refl
list_all-take p (suc n) (d ∷ ds) h = rw (and_first (p d) (list_all p ds) h, list_all-take p n ds (and_second (p d) (list_all p ds) h)) refl

six_tests : (n : ℕ) → n < 1000000 → list_all is_ascii_digit (six_digits n) ≡ true
six_tests n lt =
    rw (digit_tests (n / 10 / 10 / 10 / 10 / 10) (omega arith), digit_tests (n / 10 / 10 / 10 / 10 % 10) (omega arith), digit_tests (n / 10 / 10 / 10 % 10) (omega arith), digit_tests (n / 10 / 10 % 10) (omega arith), digit_tests (n / 10 % 10) (omega arith), digit_tests (n % 10) (omega arith)) refl

decimals_some : (n : ℕ) → n < 1000000 → 0 < n → 0 < length (without_zeros (six_digits n))
decimals_some n lt some = elim (cases_lt 0 (length (without_zeros (six_digits n)))) [
  | inl filled ↦ filled
  | inr le ↦ absurd (omega (arith, decimals_value n lt, ap millionths_of (nil_from_length (without_zeros (six_digits n)) (omega arith))))
]

decimals_digits : (n : ℕ) → n < 1000000 → 0 < n → are_digits (without_zeros (six_digits n)) ≡ true
decimals_digits n lt some = and_true (lt-ltb 0 (length (without_zeros (six_digits n))) (decimals_some n lt some)) (list_all-take is_ascii_digit (length (six_digits n) - suffix_len is_zero (six_digits n)) (six_digits n) (six_tests n lt))

abbrev fraction_of : ℕ → Option (List ℕ)
fraction_of n = cond (eqb n 0) None (Some (without_zeros (six_digits n)))

fraction_of-value : (n : ℕ) → n < 1000000 → fraction_value (fraction_of n) ≡ n
fraction_of-value n lt = elim (cases_Bool (eqb n 0)) [
  | inl none ↦ rw none (sym (eqb-true n 0 none))
  | inr some ↦ rw some (decimals_value n lt)
]

fraction_of-digits : (n : ℕ) → n < 1000000 → IfSome (fraction_of n) (λ ds. IsTrue (are_digits ds))
fraction_of-digits n lt = elim (cases_Bool (eqb n 0)) [
  | inl none ↦ rw none tt
  | inr some ↦ let d = decimals_digits n lt (ne_zero n (eqb-false n 0 some)) in rw some (search (rules, d))
]

signed_size : (v : ℤ) → signed (is_below_zero v) (nat_abs v) ≡ v
signed_size (pos n) = refl
signed_size (negsuc n) = refl

-- the canonical spelling of a value of at most a trillion on either side spells it
pub Spells-canonical : (v : ℤ) → nat_abs v ≤ greatest → Spells (canonical v) v
Spells-canonical v fits =
    let n = nat_abs v in
    let rest : n % 1000000 < 1000000 = omega arith in
    let small : n / 1000000 < 2 ^ 64 = omega arith in
    let digits = whole_digits (n / 1000000) small in
    let size : magnitude (canonical_parts v) ≡ n = rw ((spelled (n / 1000000) small).1, fraction_of-value (n % 1000000) rest) (omega arith) in
    record {
      parts = canonical_parts v;
      is_text = refl;
      whole = search (rules, digits);
      fraction = fraction_of-digits (n % 1000000) rest;
      fits = rw size fits;
      value = rw size (sym (signed_size v));
    }

-- number_of gives back a value of at most a trillion on either side from its canonical spelling
pub number_of-canonical : (v : ℤ) → nat_abs v ≤ greatest → number_of (canonical v) ≡ Some v
number_of-canonical v fits = number_of-Spells (canonical v) v (Spells-canonical v fits)
