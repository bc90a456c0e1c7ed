-- One walk over a good line, word after word: the values met and those of the words left are the values of the line.
use Rattle.std.proofs.Common.{◌≡◌, ℕ, zero, suc, ◌+◌, ◌*◌, ◌<◌, ◌≤◌, Bool, true, false, eqb, ltb, ◌||◌, List, [], ◌∷◌, ◌++◌, length, get_or, take, drop, Option, Some, None, Ok, ℤ, refl, sym, ap, subst, ◌∙◌, append_assoc, arith, inl, inr}
use Rattle.std.specs.Prelude.{IsTrue}
use Rattle.std.specs.List.{list_all, list_any, prefix_len}
use Rattle.std.specs.Char.{is_ascii_digit}
use Rattle.std.proofs.lemmas.Grind.{common_steps}
use Rattle.std.proofs.lemmas.Bool.{cases_Bool, lt-ltb}
use Rattle.std.proofs.Math.ListN.{drop_of_length-le}
use Rattle.std.proofs.lemmas.List.{append-nil, take-append-drop, take_all, length-take-le, drop_more, nil_from_length}
use Rattle.std.proofs.lemmas.List.Folds.{list_any-append}
use Rattle.swf_text.specs.Limits.{whole_limit}
use Rattle.swf_text.specs.Number.{digits_value, are_digits, begins_negative, unsigned_text, sign_text, signed, greatest, millionths_of}
use Rattle.swf_text.specs.Line.{is_blank, is_high, fields, from_first, values_from, value_then, job_line, job_of_values}
use Rattle.swf_text.specs.Packed.{value_of}
use Rattle.swf_text.specs.Scan.{EndedWord, NextWord, Word, ends}
use Rattle.swf_text.proofs.Codes.{low_code}
use Rattle.swf_text.proofs.Numbers.{and_first, sign_again, number_of-Spells}
use Rattle.swf_text.proofs.Words.{onto, onto-value_then, fields-from_first, values_end, fields-end}
use Rattle.swf_text.proofs.Plains.{is_plain, plain_no_blank, word_fields, spelling_plain, all_low}

digits_tests : (ds : List ℕ) → list_all is_ascii_digit ds ≡ true → 0 < length ds → IsTrue (are_digits ds)
digits_tests ds all some = let t : ltb 0 (length ds) ≡ true = lt-ltb 0 (length ds) some in rw (t, all) refl

module _ (bytes unsigned : List ℕ) (n : Bool) (count whole : ℕ) (sign : n ≡ begins_negative bytes) (body : unsigned ≡ unsigned_text bytes) (within : count ≤ length unsigned) (digits : list_all is_ascii_digit (take count unsigned) ≡ true) (value : whole ≡ digits_value (take count unsigned)) (some : 0 < count) (small : whole ≤ whole_limit) where
  exact : digits_value (take count unsigned) ≡ whole
  exact = sym value

  filled : 0 < length (take count unsigned)
  filled = omega (arith, length-take-le count unsigned within)

  apart : bytes ≡ sign_text n ++ (take count unsigned ++ drop count unsigned)
  apart = sym (sign_again bytes) ∙ ap (λ (s : Bool). sign_text s ++ unsigned_text bytes) (sym sign) ∙ ap (λ (u : List ℕ). sign_text n ++ u) (sym body ∙ sym (take-append-drop count unsigned))

  -- bytes that begin with digits, behind a `-` or not, and behind them end or go on with a blank, begin with a word that spells the whole number of the digits
  pub word_whole : (rest : List ℕ) (v : ℤ) → rest ≡ drop count unsigned → ends rest ≡ true → v ≡ signed n (1000000 * whole) → Word bytes v rest
  word_whole rest v is end v_is =
      let size : 1000000 * whole ≡ 1000000 * digits_value (take count unsigned) + 0 = omega (arith, exact) in
      record {
        word = sign_text n ++ (take count unsigned ++ []);
        is = apart ∙ ap (λ (r : List ℕ). sign_text n ++ (take count unsigned ++ r)) (sym is) ∙ ap (λ (u : List ℕ). sign_text n ++ u) (ap (λ (t : List ℕ). t ++ rest) (sym (append-nil (take count unsigned)))) ∙ sym (append_assoc (sign_text n) (take count unsigned ++ []) rest);
        spells = record {
          parts = record { is_negative = n; whole = take count unsigned; fraction = None };
          is_text = refl;
          whole = digits_tests (take count unsigned) digits filled;
          fraction = tt;
          fits = omega (arith, exact);
          value = v_is ∙ ap (signed n) size;
        };
        end = end;
      }

  -- bytes that begin with digits, behind a `-` or not, then a point and digits, and then end or go on with a blank, begin with a word that spells that number
  pub word_point : (fraction rest : List ℕ) (v : ℤ) → drop count unsigned ≡ 46 ∷ (fraction ++ rest) → list_all is_ascii_digit fraction ≡ true → 0 < length fraction → 1000000 * whole + millionths_of fraction ≤ greatest → ends rest ≡ true → v ≡ signed n (1000000 * whole + millionths_of fraction) → Word bytes v rest
  word_point fraction rest v is all more fits end v_is =
      let size : 1000000 * whole + millionths_of fraction ≡ 1000000 * digits_value (take count unsigned) + millionths_of fraction = ap (λ (k : ℕ). 1000000 * k + millionths_of fraction) (sym exact) in
      record {
        word = sign_text n ++ (take count unsigned ++ 46 ∷ fraction);
        is = apart ∙ ap (λ (r : List ℕ). sign_text n ++ (take count unsigned ++ r)) is ∙ ap (λ (u : List ℕ). sign_text n ++ u) (sym (append_assoc (take count unsigned) (46 ∷ fraction) rest)) ∙ sym (append_assoc (sign_text n) (take count unsigned ++ 46 ∷ fraction) rest);
        spells = record {
          parts = record { is_negative = n; whole = take count unsigned; fraction = Some fraction };
          is_text = refl;
          whole = digits_tests (take count unsigned) digits filled;
          fraction = digits_tests fraction all more;
          fits = subst (λ (k : ℕ). k ≤ greatest) size fits;
          value = v_is ∙ ap (signed n) size;
        };
        end = end;
      }

digit_sign : (b : ℕ) → is_ascii_digit b ≡ true → eqb b 45 ≡ false
digit_sign b h = grind (arith, common_steps)

digit_first : (bytes : List ℕ) (count : ℕ) → list_all is_ascii_digit (take count bytes) ≡ true → 0 < count → count ≤ length bytes → begins_negative bytes ≡ false
digit_first bytes zero all some within = absurd (omega arith)
digit_first [] (suc n) all some within = absurd (omega arith)
digit_first (b ∷ bs) (suc n) all some within = digit_sign b (and_first _ _ all)

pub word_digits : (bytes rest : List ℕ) (count whole : ℕ) (v : ℤ) → count ≤ length bytes → list_all is_ascii_digit (take count bytes) ≡ true → whole ≡ digits_value (take count bytes) → 0 < count → whole ≤ whole_limit → rest ≡ drop count bytes → ends rest ≡ true → v ≡ signed false (1000000 * whole) → Word bytes v rest
word_digits bytes rest count whole v within digits value some small is end v_is =
    let first = digit_first bytes count digits some within in
    let body : bytes ≡ unsigned_text bytes = rw first refl in
    word_whole bytes bytes false count whole (sym first) body within digits value some small rest v is end v_is

-- the word `-1`
pub word_unknown : (bytes digits rest : List ℕ) → bytes ≡ 45 ∷ digits → digits ≡ 49 ∷ rest → ends rest ≡ true → Word bytes (signed true 1000000) rest
word_unknown bytes digits rest sign digit end =
    let is : 45 ∷ 49 ∷ rest ≡ bytes = sym (sign ∙ ap (λ (l : List ℕ). 45 ∷ l) digit) in
    subst (λ (l : List ℕ). Word l (signed true 1000000) rest) is (word_whole (45 ∷ 49 ∷ rest) (49 ∷ rest) true 1 1 refl refl (omega arith) refl refl (omega arith) (omega arith) rest (signed true 1000000) refl end refl)

front_space : (rest : List ℕ) → from_first (32 ∷ rest) ≡ from_first rest
front_space rest =
    let count : prefix_len is_blank (32 ∷ rest) ≡ suc (prefix_len is_blank rest) = omega arith in
    ap (λ (k : ℕ). drop k (32 ∷ rest)) count

-- the word `-1` and the byte that ends it
pub ended_unknown : (bytes rest : List ℕ) (end : ℕ) → 3 ≤ length bytes → get_or bytes 0 0 ≡ 45 → get_or bytes 1 0 ≡ 49 → get_or bytes 2 0 ≡ end → rest ≡ drop 3 bytes → EndedWord bytes (signed true 1000000) end rest
ended_unknown [] rest end long sign digit stop is = absurd (omega arith)
ended_unknown (a ∷ []) rest end long sign digit stop is = absurd (omega arith)
ended_unknown (a ∷ b ∷ []) rest end long sign digit stop is = absurd (omega arith)
ended_unknown (a ∷ b ∷ c ∷ bs) rest end long sign digit stop is =
    let whole : 45 ∷ 49 ∷ end ∷ rest ≡ a ∷ b ∷ c ∷ bs = ap (λ (l : List ℕ). 45 ∷ 49 ∷ end ∷ l) is ∙ ap (λ (x : ℕ). x ∷ 49 ∷ end ∷ bs) (sym sign) ∙ ap (λ (x : ℕ). a ∷ x ∷ end ∷ bs) (sym digit) ∙ ap (λ (x : ℕ). a ∷ b ∷ x ∷ bs) (sym stop) in
    let alone = word_unknown (45 ∷ 49 ∷ []) (49 ∷ []) [] refl refl refl in
    record {
      word = alone.word;
      is = sym whole ∙ ap (λ (w : List ℕ). w ++ end ∷ rest) (alone.is ∙ append-nil alone.word);
      spells = alone.spells;
    }

-- a word of digits that has a code, and the byte that ends it
pub ended_digits : (bytes rest : List ℕ) (end count value : ℕ) → 11 ≤ length bytes → count < 11 → 0 < count → list_all is_ascii_digit (take count bytes) ≡ true → value ≡ digits_value (take count bytes) → value < 3999999999 → get_or bytes count 0 ≡ end → rest ≡ drop (count + 1) bytes → EndedWord bytes (value_of (value + 1)) end rest
ended_digits bytes rest end count value long within some digits value_is small stop is =
    let behind : drop count bytes ≡ end ∷ rest = drop_more bytes count 0 (omega arith) ∙ ap (λ (b : ℕ). b ∷ drop (count + 1) bytes) stop ∙ ap (λ (l : List ℕ). end ∷ l) (sym is) in
    let len : length (take count bytes) ≡ count = length-take-le count bytes (omega arith) in
    let whole : take count (take count bytes) ≡ take count bytes = take_all count (take count bytes) (omega (arith, len)) in
    let alone = word_digits (take count bytes) [] count value (value_of (value + 1)) (omega (arith, len)) (ap (list_all is_ascii_digit) whole ∙ digits) (value_is ∙ ap digits_value (sym whole)) some (omega arith)
    (sym (drop_of_length-le (take count bytes) (omega (arith, len)))) refl (sym (low_code (value + 1) (1000000 * value) (omega arith) (omega arith) (omega arith))) in
    record {
      word = alone.word;
      is = sym (take-append-drop count bytes) ∙ ap (λ (l : List ℕ). take count bytes ++ l) behind ∙ ap (λ (w : List ℕ). w ++ end ∷ rest) (alone.is ∙ append-nil alone.word);
      spells = alone.spells;
    }

-- a word before a space
pub next_ended : (bytes rest : List ℕ) (v : ℤ) → EndedWord bytes v 32 rest → NextWord bytes v rest
next_ended bytes rest v h = record { after = 32 ∷ rest; word = record { word = h.word; is = h.is; spells = h.spells; end = refl }; goes_on = front_space rest }

plain_front : (w rest : List ℕ) → list_all is_plain w ≡ true → 0 < length w → from_first (w ++ rest) ≡ w ++ rest
plain_front [] rest all some = absurd (omega arith)
plain_front (b ∷ w) rest all some =
    let other = plain_no_blank b (and_first _ _ all) in
    let count : prefix_len is_blank (b ∷ (w ++ rest)) ≡ 0 = rw other refl in
    ap (λ (k : ℕ). drop k (b ∷ (w ++ rest))) count

-- what follows the blanks at the front has none at its own front
pub front_twice : (bytes : List ℕ) → from_first (from_first bytes) ≡ from_first bytes
front_twice [] = refl
front_twice (b ∷ bs) = elim (cases_Bool (is_blank b)) [
  | inl blank ↦
      let count : prefix_len is_blank (b ∷ bs) ≡ suc (prefix_len is_blank bs) = rw blank (omega arith) in
      let same : from_first (b ∷ bs) ≡ from_first bs = ap (λ (k : ℕ). drop k (b ∷ bs)) count in
      ap from_first same ∙ front_twice bs ∙ sym same
  | inr other ↦
      let count : prefix_len is_blank (b ∷ bs) ≡ 0 = rw other refl in
      let same : from_first (b ∷ bs) ≡ b ∷ bs = ap (λ (k : ℕ). drop k (b ∷ bs)) count in
      ap from_first same
]

word_behind : (bytes front rest : List ℕ) (v : ℤ) → from_first front ≡ from_first bytes → Word front v rest → Word (from_first bytes) v rest
word_behind bytes front rest v is h =
    let plain = spelling_plain h.word v h.spells in
    let kept : from_first front ≡ front = ap from_first h.is ∙ plain_front h.word rest plain.0 plain.1 ∙ sym h.is in
    subst (λ (l : List ℕ). Word l v rest) (sym kept ∙ is) h

-- where two byte strings are the same behind the blanks at their front, the next word of the one stands behind the blanks of the other
pub next_behind : (bytes front rest : List ℕ) (v : ℤ) → from_first front ≡ from_first bytes → NextWord front v rest → NextWord (from_first bytes) v rest
next_behind bytes front rest v is h = record { after = h.after; word = word_behind bytes front h.after v is h.word; goes_on = h.goes_on }

blank_low : (b : ℕ) → is_blank b ≡ true → is_high b ≡ false
blank_low b h = grind (arith, common_steps)

low_from_first : (bs : List ℕ) → list_any is_high bs ≡ list_any is_high (from_first bs)
low_from_first [] = refl
low_from_first (b ∷ bs) = elim (cases_Bool (is_blank b)) [
  | inl blank ↦
      let count : prefix_len is_blank (b ∷ bs) ≡ suc (prefix_len is_blank bs) = rw blank (omega arith) in
      let low = blank_low b blank in
      ap (λ (c : Bool). c || list_any is_high bs) low ∙ low_from_first bs ∙ ap (λ (k : ℕ). list_any is_high (drop k (b ∷ bs))) (sym count)
  | inr other ↦
      let count : prefix_len is_blank (b ∷ bs) ≡ 0 = rw other refl in
      ap (λ (k : ℕ). list_any is_high (drop k (b ∷ bs))) (sym count)
]

module _ (bytes after : List ℕ) (v : ℤ) (h : Word bytes v after) where
  plain_word : (list_all is_plain h.word ≡ true) × (0 < length h.word)
  plain_word = spelling_plain h.word v h.spells

  pub word_next : fields bytes ≡ h.word ∷ fields after
  word_next = ap fields h.is ∙ word_fields h.word after plain_word.0 plain_word.1 h.end

  pub word_low : list_any is_high bytes ≡ list_any is_high after
  word_low = ap (list_any is_high) h.is ∙ list_any-append is_high h.word after ∙ ap (λ (c : Bool). c || list_any is_high after) (all_low h.word plain_word.0)

-- the values that a walk over a line has met, and what is left of the line
abbrev pub IsMet : List ℕ → List ℤ → ℕ → List ℕ → Type 0
IsMet line front place rest = record {
  counted : place + length (fields rest) ≡ length (fields line);
  low : list_any is_high line ≡ list_any is_high rest;
  read : onto front (values_from (place + 1) (fields rest)) ≡ values_from 1 (fields line);
}

-- where a word follows the values that a walk has met, its value is met too, and what is behind it is left
pub walk_kept : (line : List ℕ) (front next : List ℤ) (place : ℕ) (rest behind : List ℕ) (v : ℤ) → IsMet line front place rest → next ≡ front ++ v ∷ [] → NextWord (from_first rest) v behind → IsMet line next (place + 1) behind
unfolding values_from
walk_kept line front next place rest behind v met next_is h =
    let same : fields h.after ≡ fields behind = fields-from_first h.after ∙ ap fields h.goes_on ∙ sym (fields-from_first behind) in
    let words : fields rest ≡ h.word.word ∷ fields behind = fields-from_first rest ∙ word_next (from_first rest) h.after v h.word ∙ ap (λ (ws : List (List ℕ)). h.word.word ∷ ws) same in
    record {
      counted = omega (arith, met.counted, ap length words);
      low = met.low ∙ low_from_first rest ∙ word_low (from_first rest) h.after v h.word ∙ low_from_first h.after ∙ ap (list_any is_high) h.goes_on ∙ sym (low_from_first behind);
      read = ap (λ (vs : List ℤ). onto vs (values_from (place + 1 + 1) (fields behind))) next_is
          ∙ sym (onto-value_then front (place + 1) v (values_from (place + 1 + 1) (fields behind)))
          ∙ ap (λ (o : Option ℤ). onto front (value_then (place + 1) o (values_from (place + 1 + 1) (fields behind)))) (sym (number_of-Spells h.word.word v h.word.spells))
          ∙ ap (λ (ws : List (List ℕ)). onto front (values_from (place + 1) ws)) (sym words)
          ∙ met.read;
    }

-- a word that the bytes begin with is their next word
pub next_here : (bytes rest : List ℕ) (v : ℤ) → Word bytes v rest → NextWord bytes v rest
next_here bytes rest v h = record { after = rest; word = h; goes_on = refl }

-- where nothing but blanks is left after eighteen values, the line is read as a job line of these values
pub walk_end : (line : List ℕ) (front values : List ℤ) (rest left : List ℕ) → IsMet line front 18 rest → front ≡ values → left ≡ from_first rest → length left ≡ 0 → job_line line ≡ job_of_values (Ok values)
walk_end line front values rest left met whole is none =
    let nothing : from_first rest ≡ [] = sym is ∙ nil_from_length left none in
    let no_words : fields rest ≡ [] = fields-end rest (ap length nothing) in
    let low' : list_any is_high line ≡ false = met.low ∙ low_from_first rest ∙ ap (list_any is_high) nothing in
    let count : eqb (length (fields line)) 18 ≡ true = let c : length (fields line) ≡ 18 = omega (arith, met.counted, ap length no_words) in rw c refl in
    let all : values_from 1 (fields line) ≡ Ok values = sym met.read ∙ values_end front (18 + 1) rest (ap length no_words) ∙ ap Ok whole in
    rw (low', count, all) refl
