-- A whole number or one of hundredths is the value of its code; a line is put into codes, and read from them, place after place.
use Rattle.std.proofs.Common.{◌≡◌, ℕ, ◌+◌, ◌-◌, ◌*◌, ◌<◌, ◌≤◌, true, false, eqb, ltb, List, [], ◌∷◌, ◌++◌, length, get_or, take, set, map, ℤ, pos, sym, ap, ◌∙◌, arith}
use Rattle.std.proofs.lemmas.Bool.{lt-ltb, le-ltb}
use Rattle.std.proofs.lemmas.Grind.{common_steps}
use Rattle.std.proofs.lemmas.List.{map-append, take_more, take_more_set, take_all}
use Rattle.swf_text.specs.Packed.{value_of}

not_zero : (n : ℕ) → 0 < n → eqb n 0 ≡ false
not_zero n some = grind (arith, common_steps)

-- the value of a code from 1 to below 4,000,000,000: the whole number that is 1 less, in millionths
pub low_code : (code n : ℕ) → 0 < code → code < 4000000000 → n ≡ 1000000 * (code - 1) → pos n ≡ value_of code
low_code code n some lt is =
    let known : eqb code 0 ≡ false = not_zero code some in
    let small : ltb code 4000000000 ≡ true = lt-ltb code 4000000000 lt in
    rw (known, small) (ap pos is)

-- the value of a code from 4,000,000,000 on: as many hundredths as it is above that, in millionths
pub high_code : (code n : ℕ) → 4000000000 ≤ code → n ≡ 10000 * (code - 4000000000) → pos n ≡ value_of code
high_code code n le is =
    let known : eqb code 0 ≡ false = not_zero code (omega arith) in
    let great : ltb code 4000000000 ≡ false = le-ltb code 4000000000 le in
    rw (known, great) (ap pos is)

-- with a code set at the next place, the values up to it are those before, and then its own
pub codes_next : (codes : List ℕ) (place code : ℕ) → place < length codes → map value_of (take (place + 1) (set codes place code)) ≡ map value_of (take place codes) ++ value_of code ∷ []
codes_next codes place code lt = ap (map value_of) (take_more_set codes place code lt) ∙ map-append value_of (take place codes) (code ∷ [])

module _ (codes : List ℕ) (line : List ℤ) (sized : length codes ≡ 18) (eighteen : length line ≡ 18) where
  -- where the codes up to a place have the values of the line up to it, they do up to the next with the code of the line's next value set there
  pub codes_more : (place code : ℕ) (d : ℤ) → place < 18 → map value_of (take place codes) ≡ take place line → value_of code ≡ get_or line place d → map value_of (take (place + 1) (set codes place code)) ≡ take (place + 1) line
  codes_more place code d lt so_far is =
      codes_next codes place code (omega (arith, sized)) ∙ ap (λ (vs : List ℤ). vs ++ value_of code ∷ []) so_far ∙ ap (λ (v : ℤ). take place line ++ v ∷ []) is
      ∙ sym (take_more line place d (omega (arith, eighteen)))

  -- eighteen codes have the values of the line of eighteen where they do up to place 18
  pub codes_whole : (place : ℕ) → 18 ≤ place → map value_of (take place codes) ≡ take place line → map value_of codes ≡ line
  codes_whole place done so_far = ap (map value_of) (sym (take_all place codes (omega (arith, sized)))) ∙ so_far ∙ take_all place line (omega (arith, eighteen))

  -- where the line up to a place has the values of the codes up to it, it does up to the next with the value of the next code set there
  pub values_more : (place : ℕ) (v : ℤ) → place < 18 → take place line ≡ map value_of (take place codes) → v ≡ value_of (get_or codes place 0) → take (place + 1) (set line place v) ≡ map value_of (take (place + 1) codes)
  values_more place v lt so_far is =
      let written : take (place + 1) (set line place v) ≡ take place line ++ v ∷ [] = take_more_set line place v (omega (arith, eighteen)) in
      written ∙ ap (λ (vs : List ℤ). vs ++ v ∷ []) so_far ∙ ap (λ (w : ℤ). map value_of (take place codes) ++ w ∷ []) is
      ∙ sym (map-append value_of (take place codes) (get_or codes place 0 ∷ [])) ∙ ap (map value_of) (sym (take_more codes place 0 (omega (arith, sized))))

  -- a line of eighteen has the values of the eighteen codes where it does up to place 18
  pub values_whole : (place : ℕ) → 18 ≤ place → take place line ≡ map value_of (take place codes) → line ≡ map value_of codes
  values_whole place done so_far = sym (take_all place line (omega (arith, eighteen))) ∙ so_far ∙ ap (map value_of) (take_all place codes (omega (arith, sized)))
