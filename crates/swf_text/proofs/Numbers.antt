-- A number's text is cut into its parts at the sign and at the first point, and the parts of a text are the ones that it was made of,
-- since digits hold neither; so number_of gives the value that the bytes spell, and no other.
use Rattle.std.proofs.Common.{◌≡◌, ℕ, suc, ◌+◌, ◌-◌, ◌<◌, Bool, true, false, cond, eqb, ltb, leb, ◌&&◌, List, [], ◌∷◌, ◌++◌, length, get_or, take, drop, Option, Some, None, ℤ, refl, sym, ap, ◌∙◌, append_assoc, arith, rules, inl, inr}
use Rattle.std.specs.Prelude.{IfSome, IsTrue}
use Rattle.std.specs.List.{list_all, list_any, before_first, after_first, position_or_len}
use Rattle.std.specs.Char.{is_ascii_digit}
use Rattle.std.proofs.lemmas.Grind.{common_steps}
use Rattle.std.proofs.lemmas.Bool.{eqb-true, cases_lt, cases_Bool, false_from_ne_true, lt-ltb, le-ltb, leb-true, le-leb}
use Rattle.std.proofs.Common.{lit<}
use Rattle.std.proofs.lemmas.List.{take_at, drop_at, length-append, append-nil, take_all, length-drop}
use Rattle.std.proofs.lemmas.List.Sums.{position_or_len_is, split_at_first, passes_at_first}
use Rattle.memchr.specs.Find.{IsFirstByte, is_byte}
use Rattle.swf_text.specs.Number.{Parts, Spells, text, parts_of, is_point, begins_negative, unsigned_text, sign_text, fraction_text, is_fraction, are_digits, number_of, value_of_parts, magnitude, greatest, signed}

pub place_found : (xs : List ℕ) (k : ℕ) → IsFirstByte (is_byte 46) xs (Some k) → position_or_len is_point xs ≡ k
place_found xs k h = position_or_len_is is_point xs k 0 (omega (arith, h.0.high)) (λ i lt. false_from_ne_true _ (λ yes. h.0.before i (omega arith) lt yes)) (λ _. h.1)

pub none_place : (xs : List ℕ) → IsFirstByte (is_byte 46) xs None → position_or_len is_point xs ≡ length xs
none_place xs h = position_or_len_is is_point xs (length xs) 0 (omega arith) (λ i lt. false_from_ne_true _ (λ yes. h i (omega arith) lt yes)) (λ lt. absurd (omega arith))

pub any_place : (xs : List ℕ) → list_any is_point xs ≡ ltb (position_or_len is_point xs) (length xs)
any_place [] = refl
any_place (x ∷ xs) = elim (cases_Bool (is_point x)) [
  | inl here ↦ rw here (sym (lt-ltb 0 (suc (length xs)) (omega arith)))
  | inr other ↦ let rest = any_place xs in grind (arith, common_steps)
]

-- where the first point is at place k, the first k bytes are what stands before it
pub whole_found : (xs : List ℕ) (k : ℕ) → IsFirstByte (is_byte 46) xs (Some k) → take k xs ≡ before_first is_point xs
whole_found xs k h = ap (λ (n : ℕ). take n xs) (sym (place_found xs k h))

-- where the first point is at place k, the fraction is there, and is the bytes behind that place
pub fraction_found : (xs : List ℕ) (k : ℕ) → IsFirstByte (is_byte 46) xs (Some k) → Some (take (length xs - (k + 1)) (drop (k + 1) xs)) ≡ cond (list_any is_point xs) (Some (after_first is_point xs)) None
fraction_found xs k h =
    let place = place_found xs k h in
    let high = h.0.high in
    let any : list_any is_point xs ≡ true = any_place xs ∙ lt-ltb (position_or_len is_point xs) (length xs) (omega arith) in
    let all : take (length xs - (k + 1)) (drop (k + 1) xs) ≡ drop (k + 1) xs = take_all (length xs - (k + 1)) (drop (k + 1) xs) (omega (arith, length-drop (k + 1) xs)) in
    rw any (ap Some (all ∙ ap (λ (n : ℕ). drop (n + 1) xs) (sym place)))

-- where there is no point, all of the bytes stand before it
pub whole_none : (xs : List ℕ) → IsFirstByte (is_byte 46) xs None → xs ≡ before_first is_point xs
whole_none xs h = sym (take_all (position_or_len is_point xs) xs (omega (arith, none_place xs h)))

-- where there is no point, there is no fraction
pub fraction_none : (xs : List ℕ) (A : Type 0) (x : A) → IsFirstByte (is_byte 46) xs None → None ≡ cond (list_any is_point xs) (Some x) None
fraction_none xs A x h =
    let any : list_any is_point xs ≡ false = any_place xs ∙ le-ltb (position_or_len is_point xs) (length xs) (omega (arith, none_place xs h)) in
    rw any refl

body_again : (xs : List ℕ) → before_first is_point xs ++ fraction_text (cond (list_any is_point xs) (Some (after_first is_point xs)) None) ≡ xs
body_again xs = elim (cases_lt (position_or_len is_point xs) (length xs)) [
  | inl lt ↦
      let any : list_any is_point xs ≡ true = any_place xs ∙ lt-ltb _ _ lt in
      let point : get_or xs (position_or_len is_point xs) 0 ≡ 46 = eqb-true _ _ (passes_at_first is_point xs 0 lt) in
      rw any (ap (λ (b : ℕ). before_first is_point xs ++ (b ∷ after_first is_point xs)) (sym point) ∙ sym (split_at_first is_point xs 0 lt))
  | inr le ↦
      let any : list_any is_point xs ≡ false = any_place xs ∙ le-ltb _ _ le in
      rw any (append-nil (before_first is_point xs) ∙ take_all (position_or_len is_point xs) xs le)
]

-- the sign and the bytes behind it are the bytes
pub sign_again : (xs : List ℕ) → sign_text (begins_negative xs) ++ unsigned_text xs ≡ xs
sign_again [] = refl
sign_again (x ∷ xs) = elim (cases_Bool (eqb x 45)) [
  | inl here ↦ rw here (ap (λ (b : ℕ). b ∷ xs) (sym (eqb-true x 45 here)))
  | inr other ↦ rw other refl
]

pub text-parts_of : (xs : List ℕ) → text (parts_of xs) ≡ xs
text-parts_of xs = ap (λ (rest : List ℕ). sign_text (begins_negative xs) ++ rest) (body_again (unsigned_text xs)) ∙ sign_again xs

digit_not : (x c : ℕ) → is_ascii_digit x ≡ true → c < 48 → eqb x c ≡ false
digit_not x c d lt = grind (arith, common_steps)

-- where both of two tests pass, the first does
pub and_first : (a b : Bool) → (a && b) ≡ true → a ≡ true
and_first true b h = refl
and_first false b h = absurd cc

-- where both of two tests pass, the second does
pub and_second : (a b : Bool) → (a && b) ≡ true → b ≡ true
and_second true b h = h
and_second false b h = absurd cc

point_place : (xs : List ℕ) (f : Option (List ℕ)) → list_all is_ascii_digit xs ≡ true → position_or_len is_point (xs ++ fraction_text f) ≡ length xs
point_place [] None h = refl
point_place [] (Some ds) h = refl
point_place (x ∷ xs) f h =
    let other : is_point x ≡ false = digit_not x 46 (and_first _ _ h) (lit< tt) in
    let rest = point_place xs f (and_second (is_ascii_digit x) (list_all is_ascii_digit xs) h) in
    rw other (omega arith)

no_sign : (xs ys : List ℕ) → are_digits xs ≡ true → eqb (get_or (xs ++ ys) 0 0) 45 ≡ false
no_sign [] ys h = absurd cc
no_sign (x ∷ xs) ys h = digit_not x 45 (and_first _ _ (and_second _ _ h)) (lit< tt)

same_parts : (p q : Parts) → p.is_negative ≡ q.is_negative → p.whole ≡ q.whole → p.fraction ≡ q.fraction → p ≡ q
same_parts p q a b c = λ i. record { is_negative = a i; whole = b i; fraction = c i }

module _ (whole : List ℕ) (digits : list_all is_ascii_digit whole ≡ true) where
  whole_back : (f : Option (List ℕ)) → before_first is_point (whole ++ fraction_text f) ≡ whole
  whole_back f = rw (point_place whole f digits) (take_at whole (fraction_text f) (length whole) refl)

  fraction_back : (f : Option (List ℕ)) → cond (list_any is_point (whole ++ fraction_text f)) (Some (after_first is_point (whole ++ fraction_text f))) None ≡ f
  fraction_back None =
      let any : list_any is_point (whole ++ []) ≡ false = any_place (whole ++ []) ∙ le-ltb _ _ (omega (arith, point_place whole None digits, length-append whole (fraction_text None))) in
      rw any refl
  fraction_back (Some ds) =
      let any : list_any is_point (whole ++ 46 ∷ ds) ≡ true = any_place (whole ++ 46 ∷ ds) ∙ lt-ltb _ _ (omega (arith, point_place whole (Some ds) digits, length-append whole (46 ∷ ds))) in
      let back : drop (position_or_len is_point (whole ++ 46 ∷ ds) + 1) (whole ++ 46 ∷ ds) ≡ ds =
      rw (point_place whole (Some ds) digits, ← append_assoc whole (46 ∷ []) ds) (drop_at (whole ++ 46 ∷ []) ds (length whole + 1) (length-append whole (46 ∷ []))) in
      rw any (ap Some back)

sign_back : (n : Bool) (whole rest : List ℕ) → are_digits whole ≡ true → begins_negative (sign_text n ++ (whole ++ rest)) ≡ n
sign_back true whole rest h = refl
sign_back false whole rest h = no_sign whole rest h

unsigned_back : (n : Bool) (whole rest : List ℕ) → are_digits whole ≡ true → unsigned_text (sign_text n ++ (whole ++ rest)) ≡ whole ++ rest
unsigned_back true whole rest h = refl
unsigned_back false whole rest h = rw (no_sign whole rest h) refl

pub parts_of-text : (p : Parts) → are_digits p.whole ≡ true → parts_of (text p) ≡ p
parts_of-text p whole =
    let digits = and_second _ _ whole in
    let back = unsigned_back p.is_negative p.whole (fraction_text p.fraction) whole in
    same_parts (parts_of (text p)) p
    (sign_back p.is_negative p.whole (fraction_text p.fraction) whole)
    (ap (before_first is_point) back ∙ whole_back p.whole digits p.fraction)
    (ap (λ (u : List ℕ). cond (list_any is_point u) (Some (after_first is_point u)) None) back ∙ fraction_back p.whole digits p.fraction)

if_some : {A : Type 0} (b : Bool) (x v : A) → cond b (Some x) None ≡ Some v → (b ≡ true) × (v ≡ x)
if_some true x v h = (refl, cc)
if_some false x v h = absurd cc

fraction_known : (f : Option (List ℕ)) → is_fraction f ≡ true → IfSome f (λ ds. IsTrue (are_digits ds))
fraction_known None h = tt
fraction_known (Some ds) h = search (rules, h)

fraction_tested : (f : Option (List ℕ)) → IfSome f (λ ds. IsTrue (are_digits ds)) → is_fraction f ≡ true
fraction_tested None h = refl
fraction_tested (Some ds) h = search (rules, h)

-- the bytes spell the value that number_of gives
pub Spells-number_of : (bytes : List ℕ) (v : ℤ) → number_of bytes ≡ Some v → Spells bytes v
Spells-number_of bytes v h =
    let p = parts_of bytes in
    let chosen = if_some (are_digits p.whole && is_fraction p.fraction && leb (magnitude p) greatest) (signed p.is_negative (magnitude p)) v h in
    let both = and_first (are_digits p.whole && is_fraction p.fraction) (leb (magnitude p) greatest) chosen.0 in
    record {
      parts = p;
      is_text = sym (text-parts_of bytes);
      whole = let w = and_first (are_digits p.whole) (is_fraction p.fraction) both in search (rules, w);
      fraction = fraction_known p.fraction (and_second (are_digits p.whole) (is_fraction p.fraction) both);
      fits = leb-true (magnitude p) greatest (and_second (are_digits p.whole && is_fraction p.fraction) (leb (magnitude p) greatest) chosen.0);
      value = chosen.1;
    }

-- number_of gives the value that the bytes spell
pub number_of-Spells : (bytes : List ℕ) (v : ℤ) → Spells bytes v → number_of bytes ≡ Some v
number_of-Spells bytes v h =
    let p = h.parts in
    let whole : are_digits p.whole ≡ true = search (rules, h.whole) in
    let same : parts_of bytes ≡ p = ap parts_of h.is_text ∙ parts_of-text p whole in
    let fits : leb (magnitude p) greatest ≡ true = le-leb _ _ h.fits in
    let fraction = fraction_tested p.fraction h.fraction in
    ap value_of_parts same ∙ rw (whole, fraction, fits) (ap Some (sym h.value))
