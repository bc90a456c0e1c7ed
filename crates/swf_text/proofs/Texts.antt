-- The lines of a log, one after another: where each ends, and what the reading of one more line gives.
use Rattle.std.proofs.Common.{◌≡◌, ℕ, zero, suc, ◌+◌, ◌-◌, ◌<◌, ◌≤◌, false, eqb, List, [], ◌∷◌, ◌++◌, length, get_or, take, drop, Some, None, Result, Ok, Err, refl, sym, ap, subst, ◌∙◌, arith, inl, inr, add-one}
use Rattle.std.proofs.Math.ListN.{drop_of_length-le}
use Rattle.std.specs.List.{before_first, after_first, position_or_len, slice_split}
use Rattle.std.proofs.lemmas.Bool.{cases_lt, false_from_ne_true, ne_eqb}
use Rattle.std.proofs.lemmas.List.Sums.{position_or_len_is, fails_before_first}
use Rattle.std.proofs.lemmas.List.{take_all, take_more, length-drop}
use Rattle.std.proofs.lemmas.List.Splits.{slice_split_none, slice_split_first, length-slice_split}
use Rattle.memchr.specs.Find.{IsFirstByte, is_byte}
use Rattle.swf_text.specs.declared.fault.FaultKind.{FaultKind}
use Rattle.swf_text.specs.declared.fault.FaultKind.TheVariants as kinds
use Rattle.swf_text.specs.declared.fault.SwfFault.{SwfFault}
use Rattle.swf_text.specs.Text.{LogText, empty, is_feed, lines, without_empty_end}
use Rattle.swf_text.specs.Reading.{with_lines, with_line, at_line, Fails, FailsAt}

place_found : (xs : List ℕ) (k : ℕ) → IsFirstByte (is_byte 10) xs (Some k) → position_or_len is_feed xs ≡ k
place_found xs k h = position_or_len_is is_feed xs k 0 (omega (arith, h.0.high)) (λ i lt. false_from_ne_true _ (λ feed. h.0.before i (omega arith) lt feed)) (λ _. h.1)

none_place : (xs : List ℕ) → IsFirstByte (is_byte 10) xs None → position_or_len is_feed xs ≡ length xs
none_place xs h = position_or_len_is is_feed xs (length xs) 0 (omega arith) (λ i lt. false_from_ne_true _ (λ feed. h i (omega arith) lt feed)) (λ lt. absurd (omega arith))

-- where the first line feed is at place k, the first k bytes are what stands before it
pub line_found : (xs : List ℕ) (k : ℕ) → IsFirstByte (is_byte 10) xs (Some k) → take k xs ≡ before_first is_feed xs
line_found xs k h = ap (λ (n : ℕ). take n xs) (sym (place_found xs k h))

-- where the first line feed is at place k, the bytes behind that place are what follows it
pub rest_found : (xs : List ℕ) (k : ℕ) → IsFirstByte (is_byte 10) xs (Some k) → take (length xs - (k + 1)) (drop (k + 1) xs) ≡ after_first is_feed xs
rest_found xs k h = take_all (length xs - (k + 1)) (drop (k + 1) xs) (omega (arith, length-drop (k + 1) xs)) ∙ ap (λ (n : ℕ). drop (n + 1) xs) (sym (place_found xs k h))

-- where there is no line feed, all of the bytes stand before it
pub line_none : (xs : List ℕ) → IsFirstByte (is_byte 10) xs None → xs ≡ before_first is_feed xs
line_none xs h = sym (take_all (position_or_len is_feed xs) xs (omega (arith, none_place xs h)))

-- where there is no line feed, nothing follows it
pub rest_none : (xs : List ℕ) → IsFirstByte (is_byte 10) xs None → [] ≡ after_first is_feed xs
rest_none xs h = sym (drop_of_length-le xs (omega (arith, none_place xs h)))

-- a part that others follow is a line, even without a byte
pub more_parts : (part : List ℕ) (parts : List (List ℕ)) → 0 < length parts → without_empty_end (part ∷ parts) ≡ part ∷ without_empty_end parts
more_parts part [] some = absurd (omega arith)
more_parts part (next ∷ parts) some = refl

-- the lines of bytes, if there are any, are what stands before the first line feed, and then the lines of what follows it
pub lines-next : (bs : List ℕ) → 0 < length bs → lines bs ≡ before_first is_feed bs ∷ lines (after_first is_feed bs)
lines-next bs some = elim (cases_lt (position_or_len is_feed bs) (length bs)) [
  | inl lt ↦
      ap without_empty_end (slice_split_first is_feed bs 0 lt)
      ∙ more_parts (before_first is_feed bs) (slice_split is_feed (after_first is_feed bs)) (omega (arith, length-slice_split is_feed (after_first is_feed bs)))
  | inr le ↦
      let whole : before_first is_feed bs ≡ bs = take_all (position_or_len is_feed bs) bs le in
      let rest : after_first is_feed bs ≡ [] = drop_of_length-le bs (omega arith) in
      let alone : slice_split is_feed bs ≡ bs ∷ [] = slice_split_none is_feed bs (λ k d lt. fails_before_first is_feed bs k d (omega arith)) in
      let filled : eqb (length bs) 0 ≡ false = ne_eqb (length bs) 0 (λ none. omega arith) in
      let one : without_empty_end (bs ∷ []) ≡ bs ∷ [] = rw filled refl in
      ap without_empty_end alone ∙ one ∙ rw (whole, rest) refl
]

-- what follows the first line feed is shorter than the bytes, if there are any
pub after-shorter : (bs : List ℕ) → 0 < length bs → length (after_first is_feed bs) + 1 ≤ length bs
after-shorter bs some = omega (arith, length-drop (position_or_len is_feed bs + 1) bs)

-- where the first line of the bytes takes the text to the next, the reading goes on with that text, the next number and the bytes behind the line
pub at_next : (number : ℕ) (text next : LogText) (bs : List ℕ) → 0 < length bs → with_line text (before_first is_feed bs) ≡ Ok next → with_lines number text (lines bs) ≡ with_lines (number + 1) next (lines (after_first is_feed bs))
unfolding with_lines
at_next number text next bs some is =
    ap (with_lines number text) (lines-next bs some) ∙ ap (λ (r : Result LogText FaultKind). at_line number r (λ t. with_lines (number + 1) t (lines (after_first is_feed bs)))) is

-- a reading whose line has this fault ends with it at this line, unless memory ran out
pub fails_at : (kind : FaultKind) (number : ℕ) (r : Result LogText FaultKind) (others : LogText → Result LogText SwfFault) → Fails kind r → FailsAt kind number (at_line number r others)
fails_at kinds.Memory number r others h = tt
fails_at kinds.LineTooLong number r others h = rw h refl
fails_at kinds.NotAscii number r others h = rw h refl
fails_at kinds.FieldCount number r others h = rw h refl
fails_at (kinds.BadNumber place) number r others h = rw h refl
fails_at kinds.BadJobNumber number r others h = rw h refl
fails_at kinds.BadSubmit number r others h = rw h refl
fails_at kinds.OrphanPartial number r others h = rw h refl
fails_at kinds.DuplicateJob number r others h = rw h refl
fails_at kinds.TooManyJobs number r others h = rw h refl

-- where the first line of the bytes has this fault, the reading ends with it at this line, unless memory ran out
pub at_fault : (kind : FaultKind) (number : ℕ) (text : LogText) (bs : List ℕ) → 0 < length bs → Fails kind (with_line text (before_first is_feed bs)) → FailsAt kind number (with_lines number text (lines bs))
unfolding with_lines
at_fault kind number text bs some h =
    subst (λ (ls : List (List ℕ)). FailsAt kind number (with_lines number text ls)) (sym (lines-next bs some))
    (fails_at kind number (with_line text (before_first is_feed bs)) (λ t. with_lines (number + 1) t (lines (after_first is_feed bs))) h)

-- where no byte is left, the reading gives the text that it has
pub at_end : (number : ℕ) (text : LogText) (bs : List ℕ) → length bs ≡ 0 → with_lines number text (lines bs) ≡ Ok text
unfolding with_lines
at_end number text [] none = refl
at_end number text (b ∷ bs) none = absurd (omega arith)

-- where lines give a text, and one line more takes it to another, they and that line give the other
pub with_lines-append : (number : ℕ) (t next : LogText) (front : List (List ℕ)) (line : List ℕ) (u : LogText) → with_lines number t front ≡ Ok next → with_line next line ≡ Ok u → with_lines number t (front ++ line ∷ []) ≡ Ok u
unfolding with_lines
with_lines-append number t next [] line u h is =
    let same : t ≡ next = cc in
    ap (λ (r : Result LogText FaultKind). at_line number r (λ v. Ok v)) (ap (λ (v : LogText). with_line v line) same ∙ is)
with_lines-append number t next (first ∷ front) line u h is = append_first (with_line t first) refl (λ v e. with_lines-append (number + 1) v next front line u e is)
  where
    append_first : (r : Result LogText FaultKind) → with_line t first ≡ r → ((v : LogText) → with_lines (number + 1) v front ≡ Ok next → with_lines (number + 1) v (front ++ line ∷ []) ≡ Ok u) → with_lines number t (first ∷ front ++ line ∷ []) ≡ Ok u
    append_first (Err kind) e later = let bad = sym (ap (λ (r : Result LogText FaultKind). at_line number r (λ v. with_lines (number + 1) v front)) e) ∙ h in absurd cc
    append_first (Ok v) e later =
        let rest = sym (ap (λ (r : Result LogText FaultKind). at_line number r (λ w. with_lines (number + 1) w front)) e) ∙ h in
        ap (λ (r : Result LogText FaultKind). at_line number r (λ w. with_lines (number + 1) w (front ++ line ∷ []))) e ∙ later v rest

-- a line further: what is read, and what is left
pub read_more : (all : List (List ℕ)) (place : ℕ) (t u : LogText) (bs : List ℕ) → 0 < length bs → drop place all ≡ lines bs → with_lines 1 empty (take place all) ≡ Ok t → with_line t (before_first is_feed bs) ≡ Ok u
    → record { left : drop (place + 1) all ≡ lines (after_first is_feed bs); done : with_lines 1 empty (take (place + 1) all) ≡ Ok u; within : place < length all }
read_more all place t u bs some left done is =
    let next : drop place all ≡ before_first is_feed bs ∷ lines (after_first is_feed bs) = left ∙ lines-next bs some in
    let count : length all - place ≡ 1 + length (lines (after_first is_feed bs)) = omega (arith, length-drop place all, ap length next) in
    let within : place < length all = omega arith in
    let line : get_or all place [] ≡ before_first is_feed bs = drop_front all place (before_first is_feed bs) (lines (after_first is_feed bs)) next in
    record {
      left = rw add-one (drop_rest all place (before_first is_feed bs) (lines (after_first is_feed bs)) next);
      done = ap (with_lines 1 empty) (take_more all place [] within ∙ ap (λ (l : List ℕ). take place all ++ l ∷ []) line) ∙ with_lines-append 1 empty t (take place all) (before_first is_feed bs) u done is;
      within = within;
    }
  where
    drop_front : (all : List (List ℕ)) (place : ℕ) (line : List ℕ) (rest : List (List ℕ)) → drop place all ≡ line ∷ rest → get_or all place [] ≡ line
    drop_front [] zero line rest h = absurd cc
    drop_front [] (suc place) line rest h = absurd cc
    drop_front (x ∷ xs) zero line rest h = cc
    drop_front (x ∷ xs) (suc place) line rest h = drop_front xs place line rest h

    drop_rest : (all : List (List ℕ)) (place : ℕ) (line : List ℕ) (rest : List (List ℕ)) → drop place all ≡ line ∷ rest → drop (suc place) all ≡ rest
    drop_rest [] zero line rest h = absurd cc
    drop_rest [] (suc place) line rest h = absurd cc
    drop_rest (x ∷ xs) zero line rest h = cc
    drop_rest (x ∷ xs) (suc place) line rest h = drop_rest xs place line rest h

-- a line is left where a byte is
pub line_left : (all : List (List ℕ)) (place : ℕ) (bs : List ℕ) → 0 < length bs → drop place all ≡ lines bs → place < length all
line_left all place bs some left = omega (arith, length-drop place all, ap length (left ∙ lines-next bs some))

-- nothing is read at first
pub read_none : (t : LogText) → empty ≡ t → with_lines 1 empty [] ≡ Ok t
unfolding with_lines
read_none t h = ap Ok h
