-- The words of a line, one after another, their values, and the loops that read eighteen of them or count them.
use Rattle.std.proofs.Common.{◌≡◌, ℕ, suc, ◌+◌, ◌<◌, ◌≤◌, true, false, ltb, not, List, [], ◌∷◌, ◌++◌, length, get_or, take, drop, Option, Some, None, Result, Ok, Err, ℤ, refl, sym, ap, ◌∙◌, append_assoc, arith, inl, inr, add-one, add-zero, drop-cons, set, length-set}
use Rattle.std.proofs.Math.Seq.{take-suc-set}
use Rattle.std.proofs.Math.ListN.{drop_of_length-le, set}
use Rattle.swf_text.specs.Number.{number_of}
use Rattle.std.specs.List.{before_first, after_first, position_or_len, prefix_len, filter, slice_split}
use Rattle.std.proofs.lemmas.Bool.{cases_lt, cases_Bool, lt-ltb}
use Rattle.std.proofs.lemmas.List.Sums.{prefix_len-le-length, prefix_len_stops, passes_at_first, fails_before_first}
use Rattle.std.proofs.lemmas.List.{append-nil, take_all, length-drop, length-take-le, nil_from_length, get_or-drop}
use Rattle.std.proofs.lemmas.List.Splits.{slice_split-cons_yes, slice_split_none, slice_split_first}
use Rattle.swf_text.specs.Line.{is_blank, is_filled, fields, from_first, values_from, value_then}
use Rattle.swf_text.specs.Scan.{first_word, after_word}

drop_next : (n b : ℕ) (bs : List ℕ) → drop (1 + n) (b ∷ bs) ≡ drop n bs
drop_next n b bs = let e : 1 + n ≡ suc n = omega arith in ap (λ (k : ℕ). drop k (b ∷ bs)) e

-- a blank at the front makes no word
pub fields-blank : (b : ℕ) (bs : List ℕ) → is_blank b ≡ true → fields (b ∷ bs) ≡ fields bs
fields-blank b bs blank = ap (filter is_filled) (slice_split-cons_yes is_blank b bs blank)

-- blanks at the front are no words
pub fields-from_first : (bs : List ℕ) → fields bs ≡ fields (from_first bs)
fields-from_first [] = refl
fields-from_first (b ∷ bs) = elim (cases_Bool (is_blank b)) [
  | inl blank ↦
      let count : prefix_len is_blank (b ∷ bs) ≡ 1 + prefix_len is_blank bs = rw blank refl in
      let front : from_first (b ∷ bs) ≡ from_first bs = ap (λ (k : ℕ). drop k (b ∷ bs)) count ∙ drop_next (prefix_len is_blank bs) b bs in
      fields-blank b bs blank ∙ fields-from_first bs ∙ ap fields (sym front)
  | inr other ↦
      let count : prefix_len is_blank (b ∷ bs) ≡ 0 = rw other refl in
      ap (λ (k : ℕ). fields (drop k (b ∷ bs))) (sym count)
]

pub filter-filled : (w : List ℕ) (ws : List (List ℕ)) → 0 < length w → filter is_filled (w ∷ ws) ≡ w ∷ filter is_filled ws
filter-filled w ws some = let filled : ltb 0 (length w) ≡ true = lt-ltb 0 (length w) some in rw filled refl

pub word_some : (bs : List ℕ) → 0 < length bs → is_blank (get_or bs 0 0) ≡ false → 0 < position_or_len is_blank bs
word_some [] some front = absurd (omega arith)
word_some (b ∷ bs) some front = rw front (omega arith)

length-before : (bs : List ℕ) → length (before_first is_blank bs) ≡ position_or_len is_blank bs
length-before bs = length-take-le (position_or_len is_blank bs) bs (prefix_len-le-length (λ b. not (is_blank b)) bs)

-- the words of bytes that begin with one
pub fields-word : (bs : List ℕ) → 0 < length bs → is_blank (get_or bs 0 0) ≡ false → fields bs ≡ before_first is_blank bs ∷ fields (drop (position_or_len is_blank bs) bs)
fields-word bs some front =
    let place = position_or_len is_blank bs in
    let filled : 0 < length (before_first is_blank bs) = omega (arith, length-before bs, word_some bs some front) in
    elim (cases_lt place (length bs)) [
      | inl lt ↦
          let blank = passes_at_first is_blank bs 0 lt in
          let next : suc place ≡ place + 1 = omega arith in
          let rest : fields (drop place bs) ≡ fields (after_first is_blank bs) =
          ap fields (drop-cons bs place 0 lt) ∙ fields-blank (get_or bs place 0) (drop (suc place) bs) blank ∙ ap (λ (k : ℕ). fields (drop k bs)) next in
          ap (filter is_filled) (slice_split_first is_blank bs 0 lt) ∙ filter-filled (before_first is_blank bs) (slice_split is_blank (after_first is_blank bs)) filled ∙ ap (λ (ws : List (List ℕ)). before_first is_blank bs ∷ ws) (sym rest)
      | inr le ↦
          let whole : before_first is_blank bs ≡ bs = take_all place bs le in
          let rest : drop place bs ≡ [] = drop_of_length-le bs le in
          let alone : slice_split is_blank bs ≡ bs ∷ [] = slice_split_none is_blank bs (λ k d lt. fails_before_first is_blank bs k d (omega arith)) in
          ap (filter is_filled) alone ∙ filter-filled bs [] some ∙ rw (whole, rest) refl
    ]

front_is_no_blank : (bs : List ℕ) → 0 < length (from_first bs) → is_blank (get_or (from_first bs) 0 0) ≡ false
front_is_no_blank bs some =
    let within : prefix_len is_blank bs < length bs = omega (arith, length-drop (prefix_len is_blank bs) bs) in
    let same : get_or (from_first bs) 0 0 ≡ get_or bs (prefix_len is_blank bs) 0 = get_or-drop (prefix_len is_blank bs) bs 0 0 ∙ ap (λ (k : ℕ). get_or bs k 0) (add-zero (prefix_len is_blank bs)) in
    ap is_blank same ∙ prefix_len_stops is_blank bs 0 within

-- where a word is left, the words are the first one and those of what follows it
pub fields-next : (bs : List ℕ) → 0 < length (from_first bs) → fields bs ≡ first_word bs ∷ fields (after_word bs)
fields-next bs left = fields-from_first bs ∙ fields-word (from_first bs) left (front_is_no_blank bs left)

-- bytes that are all blanks have no words
pub fields-end : (bs : List ℕ) → length (from_first bs) ≡ 0 → fields bs ≡ []
fields-end bs none = fields-from_first bs ∙ ap fields (nil_from_length (from_first bs) none)

-- where the first word has a byte, a word is left
pub word_left : (bs : List ℕ) → 0 < length (first_word bs) → 0 < length (from_first bs)
word_left bs some = elim (cases_lt 0 (length (from_first bs))) [
  | inl lt ↦ lt
  | inr le ↦
      let nil : from_first bs ≡ [] = nil_from_length (from_first bs) (omega arith) in
      let none : length (first_word bs) ≡ 0 = ap (λ (t : List ℕ). length (before_first is_blank t)) nil in
      absurd (omega arith)
]

-- where the first word is empty, no byte but blanks is left
pub no_word_left : (bs : List ℕ) → length (first_word bs) ≡ 0 → length (from_first bs) ≡ 0
no_word_left bs none = elim (cases_lt 0 (length (from_first bs))) [
  | inl lt ↦ absurd (omega (arith, length-before (from_first bs), word_some (from_first bs) lt (front_is_no_blank bs lt)))
  | inr le ↦ omega arith
]

pub after_word-shorter : (bs : List ℕ) → 0 < length (first_word bs) → length (after_word bs) < length bs
after_word-shorter bs some =
    let left = word_left bs some in
    omega (arith, length-drop (position_or_len is_blank (from_first bs)) (from_first bs), length-drop (prefix_len is_blank bs) bs, word_some (from_first bs) left (front_is_no_blank bs left), left)

pub left_from_fields : (bs : List ℕ) → 0 < length (fields bs) → 0 < length (from_first bs)
left_from_fields bs some = elim (cases_lt 0 (length (from_first bs))) [
  | inl lt ↦ lt
  | inr le ↦ absurd (omega (arith, ap length (fields-end bs (omega arith))))
]

-- values that stand in front
abbrev pub onto : List ℤ → Result (List ℤ) ℕ → Result (List ℤ) ℕ
onto front (Ok vs) = Ok (front ++ vs)
onto front (Err place) = Err place

-- values in front of a value and what follows it are these values and that one in front of what follows
pub onto-value_then : (front : List ℤ) (place : ℕ) (v : ℤ) (r : Result (List ℤ) ℕ) → onto front (value_then place (Some v) r) ≡ onto (front ++ v ∷ []) r
onto-value_then front place v (Ok vs) = ap Ok (sym (append_assoc front (v ∷ []) vs))
onto-value_then front place v (Err other) = refl

pub values_next : (front : List ℤ) (place : ℕ) (rest : List ℕ) (v : ℤ) → 0 < length (fields rest) → number_of (first_word rest) ≡ Some v → onto front (values_from place (fields rest)) ≡ onto (front ++ v ∷ []) (values_from (place + 1) (fields (after_word rest)))
unfolding values_from
values_next front place rest v some is =
    ap (λ (ws : List (List ℕ)). onto front (values_from place ws)) (fields-next rest (left_from_fields rest some))
    ∙ ap (λ (o : Option ℤ). onto front (value_then place o (values_from (place + 1) (fields (after_word rest))))) is
    ∙ onto-value_then front place v (values_from (place + 1) (fields (after_word rest)))

pub values_stop : (front : List ℤ) (place : ℕ) (rest : List ℕ) → 0 < length (fields rest) → number_of (first_word rest) ≡ None → onto front (values_from place (fields rest)) ≡ Err place
unfolding values_from
values_stop front place rest some is =
    ap (λ (ws : List (List ℕ)). onto front (values_from place ws)) (fields-next rest (left_from_fields rest some))
    ∙ ap (λ (o : Option ℤ). onto front (value_then place o (values_from (place + 1) (fields (after_word rest))))) is

-- where no word is left, the values are those in front
pub values_end : (front : List ℤ) (place : ℕ) (rest : List ℕ) → length (fields rest) ≡ 0 → onto front (values_from place (fields rest)) ≡ Ok front
unfolding values_from
values_end front place rest none = ap (λ (ws : List (List ℕ)). onto front (values_from place ws)) (nil_from_length (fields rest) none) ∙ ap Ok (append-nil front)

-- where the next word is no number, the line's words give its place, counted from 1
pub stop_is : (line : List ℕ) (values : List ℤ) (place : ℕ) (rest word : List ℕ) → place + length (fields rest) ≡ 18 → place < 18 → onto (take place values) (values_from (place + 1) (fields rest)) ≡ values_from 1 (fields line) → word ≡ first_word rest → number_of word ≡ None → Err (place + 1) ≡ values_from 1 (fields line)
stop_is line values place rest word left more read is none =
    sym (values_stop (take place values) (place + 1) rest (omega arith) (ap number_of (sym is) ∙ none)) ∙ read

-- where the next word is a number, and is written at its place, the values written and those of the words left are still eighteen and give the line's
pub step_kept : (line : List ℕ) (values : List ℤ) (place : ℕ) (rest word after : List ℕ) (v : ℤ) → length values ≡ 18 → place + length (fields rest) ≡ 18 → place < 18 → onto (take place values) (values_from (place + 1) (fields rest)) ≡ values_from 1 (fields line) → word ≡ first_word rest → after ≡ after_word rest → number_of word ≡ Some v
    → record { sized : length (set values place v) ≡ 18; left : place + 1 + length (fields after) ≡ 18; read : onto (take (place + 1) (set values place v)) (values_from (place + 1 + 1) (fields after)) ≡ values_from 1 (fields line) }
step_kept line values place rest word after v count left more read is rest_is some =
    let next : fields rest ≡ first_word rest ∷ fields (after_word rest) = fields-next rest (left_from_fields rest (omega arith)) in
    let written : take (place + 1) (set values place v) ≡ take place values ++ v ∷ [] = rw add-one (take-suc-set values place v (omega arith)) in
    record {
      sized = omega (arith, length-set {A = ℤ});
      left = omega (arith, ap length next, ap (λ (t : List ℕ). length (fields t)) rest_is);
      read = rw (written, rest_is) (sym (values_next (take place values) (place + 1) rest v (omega arith) (ap number_of (sym is) ∙ some)) ∙ read);
    }

-- where eighteen words are behind, the values written are those of the line's words
pub end_is : (line : List ℕ) (values : List ℤ) (place : ℕ) (rest : List ℕ) → length values ≡ 18 → place + length (fields rest) ≡ 18 → 18 ≤ place → onto (take place values) (values_from (place + 1) (fields rest)) ≡ values_from 1 (fields line) → Ok values ≡ values_from 1 (fields line)
end_is line values place rest count left done read =
    ap Ok (sym (take_all place values (omega arith))) ∙ sym (values_end (take place values) (place + 1) rest (omega arith)) ∙ read

-- with one word more counted, the count and the words left are still the words of the line, and the count and the bytes left fit its bytes
pub count_kept : (line rest word after : List ℕ) (count : ℕ) → count + length (fields rest) ≡ length (fields line) → count + length rest ≤ length line → word ≡ first_word rest → after ≡ after_word rest → 0 < length word
    → record { counted : count + 1 + length (fields after) ≡ length (fields line); within : count + 1 + length after ≤ length line }
count_kept line rest word after count counted within is rest_is some =
    let some' : 0 < length (first_word rest) = omega (arith, ap length is) in
    record {
      counted = omega (arith, ap length (fields-next rest (word_left rest some')), ap (λ (t : List ℕ). length (fields t)) rest_is);
      within = omega (arith, after_word-shorter rest some', ap length rest_is);
    }

-- where no word is left, the count is that of the words of the line
pub count_is : (line rest word : List ℕ) (count : ℕ) → count + length (fields rest) ≡ length (fields line) → word ≡ first_word rest → length word ≡ 0 → count ≡ length (fields line)
count_is line rest word count counted is none = omega (arith, ap length (fields-end rest (no_word_left rest (omega (arith, ap length is)))))

-- what follows the first word, where there is one, is shorter than the bytes
pub after_shorter : (rest word after : List ℕ) → word ≡ first_word rest → after ≡ after_word rest → 0 < length word → length after < length rest
after_shorter rest word after is rest_is some = omega (arith, ap length rest_is, after_word-shorter rest (omega (arith, ap length is)))
