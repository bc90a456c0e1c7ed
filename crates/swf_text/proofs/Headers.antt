-- The number that is read in a comment under a label is the one of its form, and the first comment of the form is the one found.
use Rattle.std.proofs.Common.{◌≡◌, ℕ, zero, suc, ◌+◌, ◌-◌, ◌<◌, ◌≤◌, Bool, true, false, ◌&&◌, eqb, leb, ltb, List, [], ◌∷◌, ◌++◌, length, take, drop, Option, Some, None, cond, refl, sym, ap, ◌∙◌, arith, inl, inr}
use lib.Pointwise.{pointwise}
use Rattle.std.specs.List.{AllByRecursion, list_all, prefix_len, starts_with}
use Rattle.std.specs.Char.{is_ascii_digit}
use Rattle.std.proofs.lemmas.Grind.{common_steps}
use Rattle.std.proofs.lemmas.List.{take_at, drop_at, take-append-drop}
use Rattle.std.proofs.lemmas.Bool.{cases_Bool, eq-eqb, eqb-true, lt-ltb, le-leb, leb-true, ltb-true}
use Rattle.std.specs.Cmp.Lexicographic.{same_text}
use Rattle.std.specs.Prelude.{IfSome}
use Rattle.swf_text.specs.Number.{digits_value}
use Rattle.swf_text.specs.Line.{is_blank, from_first}
use Rattle.swf_text.specs.Scan.{ends}
use Rattle.swf_text.specs.Header.{IsHeader, IsFirstHeader, digit_len, header_of, header_value, header_number, number_then, label_then, colon_then, to_label, or_later}
use Rattle.swf_text.proofs.Numbers.{and_first, and_second}

front_digits : (bs : List ℕ) → list_all is_ascii_digit (take (digit_len bs) bs) ≡ true
front_digits [] = refl
front_digits (b ∷ bs) = elim (cases_Bool (is_ascii_digit b)) [
  | inl here ↦
      let count : digit_len (b ∷ bs) ≡ suc (digit_len bs) = rw here (omega arith) in
      let rest = front_digits bs in
      let one : list_all is_ascii_digit (b ∷ take (digit_len bs) bs) ≡ true = rw (here, rest) refl in
      ap (λ (k : ℕ). list_all is_ascii_digit (take k (b ∷ bs))) count ∙ one
  | inr other ↦ let count : digit_len (b ∷ bs) ≡ 0 = rw other refl in ap (λ (k : ℕ). list_all is_ascii_digit (take k (b ∷ bs))) count
]

blank_no_digit : (b : ℕ) → is_blank b ≡ true → is_ascii_digit b ≡ false
blank_no_digit b h = grind (arith, common_steps)

digit_no_blank : (b : ℕ) → is_ascii_digit b ≡ true → is_blank b ≡ false
digit_no_blank b h = grind (arith, common_steps)

blank_front : (label rest : List ℕ) → prefix_len is_blank (label ++ 58 ∷ rest) ≡ prefix_len is_blank label
blank_front [] rest = refl
blank_front (b ∷ bs) rest = elim (cases_Bool (is_blank b)) [
  | inl blank ↦ let later = blank_front bs rest in rw blank (ap (λ (k : ℕ). 1 + k) later)
  | inr other ↦ rw other refl
]

blanks_front : (before bytes : List ℕ) → list_all is_blank before ≡ true → prefix_len is_blank (before ++ bytes) ≡ length before + prefix_len is_blank bytes
blanks_front [] bytes h = omega arith
blanks_front (b ∷ bs) bytes h =
    let here = and_first (is_blank b) (list_all is_blank bs) h in
    let later = blanks_front bs bytes (and_second (is_blank b) (list_all is_blank bs) h) in
    rw here (omega (arith, later))

digits_front : (digits rest : List ℕ) → list_all is_ascii_digit digits ≡ true → ends rest ≡ true → digit_len (digits ++ rest) ≡ length digits
digits_front [] [] h e = refl
digits_front [] (b ∷ bs) h e = let other : is_ascii_digit b ≡ false = blank_no_digit b e in rw other refl
digits_front (d ∷ ds) rest h e =
    let here = and_first (is_ascii_digit d) (list_all is_ascii_digit ds) h in
    let later = digits_front ds rest (and_second (is_ascii_digit d) (list_all is_ascii_digit ds) h) e in
    rw here (omega (arith, later))

no_blank_front : (digits rest : List ℕ) → 0 < length digits → list_all is_ascii_digit digits ≡ true → prefix_len is_blank (digits ++ rest) ≡ 0
no_blank_front [] rest some h = absurd (omega arith)
no_blank_front (d ∷ ds) rest some h = let other : is_blank d ≡ false = digit_no_blank d (and_first (is_ascii_digit d) (list_all is_ascii_digit ds) h) in rw other refl

same_bytes : (xs : List ℕ) → pointwise eqb xs xs ≡ true
same_bytes [] = refl
same_bytes (x ∷ xs) = let one : eqb x x ≡ true = eq-eqb x x refl in let rest = same_bytes xs in rw (one, rest) refl

pub header_read : (label comment : List ℕ) (n : ℕ) → IsHeader label comment n → header_of label comment ≡ Some n
header_read label comment n h =
    let tail = h.digits ++ h.rest in
    let spaced = h.between ++ tail in
    let body = label ++ 58 ∷ spaced in
    let place : prefix_len is_blank (h.before ++ body) - prefix_len is_blank label ≡ length h.before = omega (arith, blanks_front h.before body h.blanks, blank_front label spaced) in
    let at_label : to_label label (h.before ++ body) ≡ body = ap (λ (k : ℕ). drop k (h.before ++ body)) place ∙ drop_at h.before body (length h.before) refl in
    let begins : starts_with eqb body label ≡ true = ap (pointwise eqb label) (take_at label (58 ∷ spaced) (length label) refl) ∙ same_bytes label in
    let behind : drop (length label) body ≡ 58 ∷ spaced = drop_at label (58 ∷ spaced) (length label) refl in
    let blanks : prefix_len is_blank spaced ≡ length h.between = omega (arith, blanks_front h.between tail h.more_blanks, no_blank_front h.digits h.rest h.some h.all) in
    let at_digits : from_first spaced ≡ tail = ap (λ (k : ℕ). drop k spaced) blanks ∙ drop_at h.between tail (length h.between) refl in
    let count = digits_front h.digits h.rest h.all h.end in
    let some : ltb 0 (length h.digits) ≡ true = lt-ltb 0 (length h.digits) h.some in
    let few : leb (length h.digits) 18 ≡ true = le-leb (length h.digits) 18 h.few in
    let end = h.end in
    let number : number_then h.digits h.rest ≡ Some n = rw (some, few, end) (ap Some (sym h.value)) in
    let value : header_value tail ≡ Some n =
    ap (λ (k : ℕ). number_then (take k tail) (drop k tail)) count ∙ ap (λ (ds : List ℕ). number_then ds (drop (length h.digits) tail)) (take_at h.digits h.rest (length h.digits) refl) ∙ ap (number_then h.digits) (drop_at h.digits h.rest (length h.digits) refl) ∙ number in
    ap (header_of label) h.is ∙ ap (label_then label) at_label ∙ rw begins (ap colon_then behind ∙ ap header_value at_digits ∙ value)

kept : (c : Bool) (o : Option ℕ) (n : ℕ) → cond c o None ≡ Some n → (c ≡ true) × (o ≡ Some n)
kept true o n h = (refl, h)
kept false o n h = absurd cc

blanks_taken : (bs : List ℕ) (k : ℕ) → k ≤ prefix_len is_blank bs → list_all is_blank (take k bs) ≡ true
blanks_taken bs zero le = refl
blanks_taken [] (suc k) le = refl
blanks_taken (b ∷ bs) (suc k) le = elim (cases_Bool (is_blank b)) [
  | inl blank ↦
      let count : prefix_len is_blank (b ∷ bs) ≡ 1 + prefix_len is_blank bs = rw blank refl in
      let later = blanks_taken bs k (omega arith) in rw (blank, later) refl
  | inr other ↦ let count : prefix_len is_blank (b ∷ bs) ≡ 0 = rw other refl in absurd (omega arith)
]

colon_form : (bytes : List ℕ) (n : ℕ) → colon_then bytes ≡ Some n → (rest : List ℕ) × (bytes ≡ 58 ∷ rest) × (header_value (from_first rest) ≡ Some n)
colon_form [] n h = absurd cc
colon_form (b ∷ bs) n h = let both = kept (eqb b 58) (header_value (from_first bs)) n h in (bs, ap (λ (c : ℕ). c ∷ bs) (eqb-true b 58 both.0), both.1)

pub header_form : (label comment : List ℕ) (n : ℕ) → header_of label comment ≡ Some n → IsHeader label comment n
header_form label [] n h = absurd cc
header_form label (b ∷ bs) n h =
    let mark = kept (eqb b 59) (label_then label (to_label label bs)) n h in
    let skip = prefix_len is_blank bs - prefix_len is_blank label in
    let body = to_label label bs in
    let named = kept (starts_with eqb body label) (colon_then (drop (length label) body)) n mark.1 in
    let label_is : label ≡ take (length label) body = same_text label (take (length label) body) (sym named.0) in
    let colon = colon_form (drop (length label) body) n named.1 in
    let rest = colon.0 in
    let blanks = prefix_len is_blank rest in
    let tail = from_first rest in
    let count = digit_len tail in
    let digits = take count tail in
    let after = drop count tail in
    let number = kept (ltb 0 (length digits) && leb (length digits) 18 && ends after) (Some (digits_value digits)) n colon.2 in
    let both = and_first (ltb 0 (length digits) && leb (length digits) 18) (ends after) number.0 in
    let body_is : body ≡ label ++ 58 ∷ (take blanks rest ++ (digits ++ after)) =
    sym (take-append-drop (length label) body) ∙ ap (λ (l : List ℕ). l ++ drop (length label) body) (sym label_is) ∙ ap (λ (l : List ℕ). label ++ l) (colon.1 ∙ ap (λ (l : List ℕ). 58 ∷ l) (sym (take-append-drop blanks rest) ∙ ap (λ (l : List ℕ). take blanks rest ++ l) (sym (take-append-drop count tail)))) in
    record {
      before = take skip bs;
      between = take blanks rest;
      digits = digits;
      rest = after;
      is = ap (λ (c : ℕ). c ∷ bs) (eqb-true b 59 mark.0) ∙ ap (λ (l : List ℕ). 59 ∷ l) (sym (take-append-drop skip bs) ∙ ap (λ (l : List ℕ). take skip bs ++ l) body_is);
      blanks = blanks_taken bs skip (omega arith);
      more_blanks = blanks_taken rest blanks (omega arith);
      all = front_digits tail;
      some = ltb-true 0 (length digits) (and_first (ltb 0 (length digits)) (leb (length digits) 18) both);
      few = leb-true (length digits) 18 (and_second (ltb 0 (length digits)) (leb (length digits) 18) both);
      end = and_second (ltb 0 (length digits) && leb (length digits) 18) (ends after) number.0;
      value = some_is (digits_value digits) n number.1;
    }
  where
    some_is : (a c : ℕ) → Some a ≡ Some c → c ≡ a
    some_is a c e = cc

first_next : (label comment : List ℕ) (comments : List (List ℕ)) (n : ℕ) (o : Option ℕ) → header_of label comment ≡ o → or_later o (header_number label comments) ≡ Some n → (header_number label comments ≡ Some n → IsFirstHeader label comments n) → IsFirstHeader label (comment ∷ comments) n
first_next label comment comments n (Some m) is h later = record { front = []; comment = comment; back = comments; are = refl; others = tt; is = header_form label comment n (is ∙ h) }
first_next label comment comments n None is h later =
    let first = later h in
    record {
      front = comment ∷ first.front;
      comment = first.comment;
      back = first.back;
      are = ap (λ (cs : List (List ℕ)). comment ∷ cs) first.are;
      others = (λ m form. none_some m (sym is ∙ header_read label comment m form), first.others);
      is = first.is;
    }
  where
    none_some : (m : ℕ) → None ≡ Some m → ⊥
    none_some m e = absurd cc

first_form : (label : List ℕ) (comments : List (List ℕ)) (n : ℕ) → header_number label comments ≡ Some n → IsFirstHeader label comments n
first_form label [] n h = absurd cc
first_form label (comment ∷ comments) n h = first_next label comment comments n (header_of label comment) refl h (first_form label comments n)

read_first : (label : List ℕ) (front : List (List ℕ)) (comment : List ℕ) (back : List (List ℕ)) (n : ℕ) → AllByRecursion (λ (other : List ℕ). (m : ℕ) → IsHeader label other m → ⊥) front → IsHeader label comment n → header_number label (front ++ comment ∷ back) ≡ Some n
read_first label [] comment back n others is = ap (λ (o : Option ℕ). or_later o (header_number label back)) (header_read label comment n is)
read_first label (other ∷ front) comment back n others is =
    ap (λ (o : Option ℕ). or_later o (header_number label (front ++ comment ∷ back))) (none_read (header_of label other) refl) ∙ read_first label front comment back n others.1 is
  where
    none_read : (o : Option ℕ) → header_of label other ≡ o → header_of label other ≡ None
    none_read None e = e
    none_read (Some m) e = absurd (others.0 m (header_form label other m e))

-- what is found is the number of the first comment of the form
pub first_found : (label : List ℕ) (comments : List (List ℕ)) (r : Option ℕ) → r ≡ header_number label comments → IfSome r (λ n. IsFirstHeader label comments n)
first_found label comments None is = tt
first_found label comments (Some n) is = first_form label comments n (sym is)

-- where there is a first comment of the form, its number is found
pub found_first : (label : List ℕ) (comments : List (List ℕ)) (r : Option ℕ) → r ≡ header_number label comments → (n : ℕ) → IsFirstHeader label comments n → r ≡ Some n
found_first label comments r is n h = is ∙ ap (header_number label) h.are ∙ read_first label h.front h.comment h.back n h.others h.is
