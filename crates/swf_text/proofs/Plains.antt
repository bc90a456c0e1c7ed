-- The bytes of a number's text, and the words that they make between blanks.
use Rattle.std.proofs.Common.{◌≡◌, ℕ, ◌<◌, Bool, true, false, ltb, leb, ◌&&◌, List, [], ◌∷◌, ◌++◌, length, get_or, take, drop, Option, Some, None, ℤ, refl, ap, ◌∙◌, arith, rules}
use Rattle.std.specs.Prelude.{IfSome, IsTrue}
use Rattle.std.specs.List.{list_all, list_any, position_or_len}
use Rattle.std.specs.Char.{is_ascii_digit}
use Rattle.std.proofs.lemmas.Grind.{common_steps}
use Rattle.std.proofs.lemmas.List.{take_at, drop_at, length-append}
use Rattle.std.proofs.lemmas.List.Folds.{list_all-append}
use Rattle.swf_text.specs.Number.{Spells, are_digits, sign_text, fraction_text, text}
use Rattle.swf_text.specs.Line.{is_blank, is_high, fields}
use Rattle.swf_text.specs.Scan.{ends}
use Rattle.swf_text.proofs.Numbers.{and_first, and_second}
use Rattle.swf_text.proofs.Words.{fields-word}

-- a byte of a number: none is a blank, a line feed, a carriage return, `;` or above 127
abbrev pub is_plain : ℕ → Bool
is_plain b = leb 45 b && ltb b 58

digit_plain : (b : ℕ) → is_ascii_digit b ≡ true → is_plain b ≡ true
digit_plain b h = grind (arith, common_steps)

digits_plain : (ds : List ℕ) → list_all is_ascii_digit ds ≡ true → list_all is_plain ds ≡ true
digits_plain [] h = refl
digits_plain (d ∷ ds) h = rw (digit_plain d (and_first _ _ h), digits_plain ds (and_second (is_ascii_digit d) (list_all is_ascii_digit ds) h)) refl

sign_plain : (n : Bool) → list_all is_plain (sign_text n) ≡ true
sign_plain true = refl
sign_plain false = refl

fraction_plain : (f : Option (List ℕ)) → IfSome f (λ ds. IsTrue (are_digits ds)) → list_all is_plain (fraction_text f) ≡ true
fraction_plain None h = refl
fraction_plain (Some ds) h = let d : are_digits ds ≡ true = search (rules, h) in digits_plain ds (and_second _ _ d)

both_plain : (xs ys : List ℕ) → list_all is_plain xs ≡ true → list_all is_plain ys ≡ true → list_all is_plain (xs ++ ys) ≡ true
both_plain xs ys p q = list_all-append is_plain xs ys ∙ rw (p, q) refl

-- the bytes that spell a value are bytes of numbers, and one at least
pub spelling_plain : (bytes : List ℕ) (v : ℤ) → Spells bytes v → (list_all is_plain bytes ≡ true) × (0 < length bytes)
spelling_plain bytes v h =
    let p = h.parts in
    let whole : are_digits p.whole ≡ true = search (rules, h.whole) in
    let plain : list_all is_plain (text p) ≡ true = both_plain (sign_text p.is_negative) (p.whole ++ fraction_text p.fraction) (sign_plain p.is_negative) (both_plain p.whole (fraction_text p.fraction) (digits_plain p.whole (and_second (ltb 0 (length p.whole)) (list_all is_ascii_digit p.whole) whole)) (fraction_plain p.fraction h.fraction)) in
    let some : 0 < length p.whole = ltb-is-true 0 (length p.whole) (and_first _ _ whole) in
    (ap (list_all is_plain) h.is_text ∙ plain, omega (arith, ap length h.is_text, length-append (sign_text p.is_negative) (p.whole ++ fraction_text p.fraction), length-append p.whole (fraction_text p.fraction)))
  where
    ltb-is-true : (a b : ℕ) → ltb a b ≡ true → a < b
    ltb-is-true a b h = grind (arith, common_steps)

-- a byte of a number is no blank
pub plain_no_blank : (b : ℕ) → is_plain b ≡ true → is_blank b ≡ false
plain_no_blank b h = grind (arith, common_steps)

module _ (p : ℕ → Bool) (solid : (b : ℕ) → p b ≡ true → is_blank b ≡ false) where
  word_end : (w rest : List ℕ) → list_all p w ≡ true → ends rest ≡ true → position_or_len is_blank (w ++ rest) ≡ length w
  word_end [] [] all end = refl
  word_end [] (b ∷ bs) all end = rw end refl
  word_end (b ∷ w) rest all end = let other = solid b (and_first _ _ all) in rw other (omega (arith, word_end w rest (and_second (p b) (list_all p w) all) end))

  front_solid : (w rest : List ℕ) → list_all p w ≡ true → 0 < length w → is_blank (get_or (w ++ rest) 0 0) ≡ false
  front_solid [] rest all some = absurd (omega arith)
  front_solid (b ∷ w) rest all some = solid b (and_first _ _ all)

  -- a word of bytes that pass a test that no blank passes, behind which the bytes end or a blank follows, is the first word, and the others are those of the rest
  pub solid_fields : (w rest : List ℕ) → list_all p w ≡ true → 0 < length w → ends rest ≡ true → fields (w ++ rest) ≡ w ∷ fields rest
  solid_fields w rest all some end =
      let place = word_end w rest all end in
      fields-word (w ++ rest) (omega (arith, length-append w rest)) (front_solid w rest all some)
      ∙ ap (λ (k : ℕ). take k (w ++ rest) ∷ fields (drop k (w ++ rest))) place
      ∙ rw (take_at w rest (length w) refl, drop_at w rest (length w) refl) refl

-- a word of bytes of numbers, behind which the bytes end or a blank follows, is the first word, and the others are those of the rest
pub word_fields : (w rest : List ℕ) → list_all is_plain w ≡ true → 0 < length w → ends rest ≡ true → fields (w ++ rest) ≡ w ∷ fields rest
word_fields w rest plain some end = solid_fields is_plain plain_no_blank w rest plain some end

plain_low : (b : ℕ) → is_plain b ≡ true → is_high b ≡ false
plain_low b h = grind (arith, common_steps)

-- no byte of a number's text is above 127
pub all_low : (bs : List ℕ) → list_all is_plain bs ≡ true → list_any is_high bs ≡ false
all_low [] h = refl
all_low (b ∷ bs) h = rw (plain_low b (and_first _ _ h), all_low bs (and_second (is_plain b) (list_all is_plain bs) h)) refl
