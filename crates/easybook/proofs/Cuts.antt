-- Lines that were passed over, and the mark behind them: a line up to the first line feed, and a last line that lacks it.
use Rattle.std.proofs.Common.{◌≡◌, ℕ, ◌+◌, ◌-◌, ◌<◌, true, false, List, [], ◌∷◌, ◌++◌, length, take, drop, Some, None, refl, sym, ap, subst, ◌∙◌, arith, inl, inr, append_assoc}
use Rattle.std.specs.List.{list_any, slice_split, All}
use Rattle.std.proofs.lemmas.Bool.{false_from_ne_true}
use Rattle.std.proofs.lemmas.List.{take_all, take_more, take-append-drop, length-drop, length-take, get_or-take}
use Rattle.std.proofs.lemmas.List.Folds.{list_any-append}
use Rattle.std.proofs.Math.Seq.{take-add}
use Rattle.std.proofs.lemmas.List.Sums.{position_or_len_is, fails_before_first, passes_at_first}
use Rattle.std.specs.List.{position_or_len}
use Rattle.std.specs.Prelude.{get_or}
use Rattle.std.proofs.lemmas.Bool.{eqb-true, ne_eqb}
use Rattle.std.proofs.lemmas.List.Splits.{slice_split_at, slice_split_none, length-slice_split}
use Rattle.memchr.specs.Find.{IsFirstByte, is_byte}
use Rattle.swf_text.specs.Text.{is_feed, lines, without_empty_end}
use Rattle.easybook.specs.Split.{IsMarked, is_mark}

-- whole lines: those of whatever stands behind them follow theirs, and none of them is a mark
pub record IsWhole (xs : List ℕ) : Type 0 where
  pub before : (ys : List ℕ) → lines (xs ++ ys) ≡ lines xs ++ lines ys
  pub unmarked : list_any is_mark (lines xs) ≡ false

more_parts : (part : List ℕ) (parts : List (List ℕ)) → 0 < length parts → without_empty_end (part ∷ parts) ≡ part ∷ without_empty_end parts
more_parts part [] some = absurd (omega arith)
more_parts part (next ∷ parts) some = refl

pub line-first : (line ys : List ℕ) → All (λ x. is_feed x ≡ false) line → lines (line ++ 10 ∷ ys) ≡ line ∷ lines ys
line-first line ys none =
    ap without_empty_end (slice_split_at is_feed line 10 ys none refl) ∙ more_parts line (slice_split is_feed ys) (omega (arith, length-slice_split is_feed ys))

pub whole-more : (xs line : List ℕ) → IsWhole xs → All (λ x. is_feed x ≡ false) line → is_mark line ≡ false → IsWhole (xs ++ (line ++ 10 ∷ []))
whole-more xs line w none plain =
    let ends : lines (xs ++ (line ++ 10 ∷ [])) ≡ lines xs ++ line ∷ [] = w.before (line ++ 10 ∷ []) ∙ ap (λ (ls : List (List ℕ)). lines xs ++ ls) (line-first line [] none) in
    record {
      before = λ ys.
          ap lines (append_assoc xs (line ++ 10 ∷ []) ys ∙ ap (λ (zs : List ℕ). xs ++ zs) (append_assoc line (10 ∷ []) ys))
          ∙ w.before (line ++ 10 ∷ ys)
          ∙ ap (λ (ls : List (List ℕ)). lines xs ++ ls) (line-first line ys none)
          ∙ sym (append_assoc (lines xs) (line ∷ []) (lines ys))
          ∙ ap (λ (ls : List (List ℕ)). ls ++ lines ys) (sym ends);
      unmarked = ap (list_any is_mark) ends ∙ list_any-append is_mark (lines xs) (line ∷ []) ∙ rw (w.unmarked, plain) refl;
    }

place_found : (rest : List ℕ) (k : ℕ) → IsFirstByte (is_byte 10) rest (Some k) → position_or_len is_feed rest ≡ k
place_found rest k h = position_or_len_is is_feed rest k 0 (omega (arith, h.0.high)) (λ i lt. false_from_ne_true _ (λ feed. h.0.before i (omega arith) lt feed)) (λ _. h.1)

no_feed : (rest : List ℕ) (k : ℕ) → IsFirstByte (is_byte 10) rest (Some k) → All (λ x. is_feed x ≡ false) (take k rest)
no_feed rest k h i d lt =
    let place = place_found rest k h in
    let low : i < k = omega (arith, length-take k rest) in
    ap is_feed (get_or-take k rest i d low) ∙ fails_before_first is_feed rest i d (omega arith)

feed_at : (rest : List ℕ) (k : ℕ) → IsFirstByte (is_byte 10) rest (Some k) → get_or rest k 0 ≡ 10
feed_at rest k h =
    let place = place_found rest k h in
    let high : k < length rest = h.0.high in
    let passes : is_feed (get_or rest (position_or_len is_feed rest) 0) ≡ true = passes_at_first is_feed rest 0 (omega arith) in
    eqb-true (get_or rest k 0) 10 (subst (λ (i : ℕ). is_feed (get_or rest i 0) ≡ true) place passes)

to_feed : (rest : List ℕ) (k : ℕ) → IsFirstByte (is_byte 10) rest (Some k) → take (k + 1) rest ≡ take k rest ++ 10 ∷ []
to_feed rest k h = take_more rest k 0 (h.0.high) ∙ ap (λ (b : ℕ). take k rest ++ b ∷ []) (feed_at rest k h)

in_parts : (rest : List ℕ) (k : ℕ) → IsFirstByte (is_byte 10) rest (Some k) → rest ≡ take k rest ++ 10 ∷ drop (k + 1) rest
in_parts rest k h =
    sym (take-append-drop (k + 1) rest) ∙ ap (λ (xs : List ℕ). xs ++ drop (k + 1) rest) (to_feed rest k h) ∙ append_assoc (take k rest) (10 ∷ []) (drop (k + 1) rest)

-- these are the bytes of the input from a place on
abbrev pub IsRest : List ℕ → ℕ → List ℕ → Type 0
IsRest input at rest = rest ≡ take (length input - at) (drop at input)

all_of_rest : (input : List ℕ) (at : ℕ) (rest : List ℕ) → IsRest input at rest → rest ≡ drop at input
all_of_rest input at rest is = is ∙ take_all (length input - at) (drop at input) (omega (arith, length-drop at input))

-- the input is the bytes before a place and those from there on
pub input_is : (input : List ℕ) (at : ℕ) (rest : List ℕ) → IsRest input at rest → input ≡ take at input ++ rest
input_is input at rest is = sym (take-append-drop at input) ∙ ap (λ (xs : List ℕ). take at input ++ xs) (sym (all_of_rest input at rest is))

-- whole lines without a mark, and a next line that is no mark, with its line feed, are whole lines without a mark
pub passed : (input : List ℕ) (at : ℕ) (rest : List ℕ) (k : ℕ) → IsWhole (take at input) → IsRest input at rest → IsFirstByte (is_byte 10) rest (Some k) → is_mark (take k rest) ≡ false → IsWhole (take (at + (k + 1)) input)
passed input at rest k w is h plain =
    let more : take (at + (k + 1)) input ≡ take at input ++ (take k rest ++ 10 ∷ []) =
    take-add at (k + 1) input ∙ ap (λ (xs : List ℕ). take at input ++ take (k + 1) xs) (sym (all_of_rest input at rest is)) ∙ ap (λ (xs : List ℕ). take at input ++ xs) (to_feed rest k h) in
    subst IsWhole (sym more) (whole-more (take at input) (take k rest) w (no_feed rest k h) plain)

cut_there : (input : List ℕ) (at : ℕ) (rest : List ℕ) (k : ℕ) → IsWhole (take at input) → IsRest input at rest → IsFirstByte (is_byte 10) rest (Some k) → is_mark (take k rest) ≡ true → IsMarked input (take at input) (drop (k + 1) rest)
cut_there input at rest k w is h marks =
    let all : input ≡ take at input ++ (take k rest ++ 10 ∷ drop (k + 1) rest) = input_is input at rest is ∙ ap (λ (xs : List ℕ). take at input ++ xs) (in_parts rest k h) in
    record {
      mark = take k rest;
      marks = marks;
      unmarked = w.unmarked;
      in_lines = ap lines all ∙ w.before (take k rest ++ 10 ∷ drop (k + 1) rest) ∙ ap (λ (ls : List (List ℕ)). lines (take at input) ++ ls) (line-first (take k rest) (drop (k + 1) rest) (no_feed rest k h));
      in_bytes = inl (all ∙ sym (append_assoc (take at input) (take k rest) (10 ∷ drop (k + 1) rest)));
    }

-- behind whole lines without a mark, a next line that is a mark, with its line feed, cuts the input: the log before it, the script behind it
pub cut_found : (input : List ℕ) (at : ℕ) (rest : List ℕ) (k : ℕ) → IsWhole (take at input) → IsRest input at rest → IsFirstByte (is_byte 10) rest (Some k) → is_mark (take k rest) ≡ true → IsMarked input (take at input) (take (length rest - (k + 1)) (drop (k + 1) rest))
cut_found input at rest k w is h marks =
    subst (IsMarked input (take at input)) (sym (take_all (length rest - (k + 1)) (drop (k + 1) rest) (omega (arith, length-drop (k + 1) rest)))) (cut_there input at rest k w is h marks)

last-line : (rest : List ℕ) → IsFirstByte (is_byte 10) rest None → 0 < length rest → lines rest ≡ rest ∷ []
last-line rest h some =
    let alone : slice_split is_feed rest ≡ rest ∷ [] = slice_split_none is_feed rest (λ i d lt. no_feeds rest h i d lt) in
    ap without_empty_end alone ∙ filled rest some where
      no_feeds : (xs : List ℕ) → IsFirstByte (is_byte 10) xs None → All (λ x. is_feed x ≡ false) xs
      no_feeds xs none i d lt = fails_before_first is_feed xs i d (omega (arith, position_or_len_is is_feed xs (length xs) 0 (omega arith) (λ j low. false_from_ne_true _ (λ feed. none j (omega arith) low feed)) (λ below. absurd (omega arith))))

      filled : (xs : List ℕ) → 0 < length xs → without_empty_end (xs ∷ []) ≡ xs ∷ []
      filled [] some = absurd (omega arith)
      filled (x ∷ xs) some = rw (ne_eqb (length (x ∷ xs)) 0 (λ none. omega arith)) refl

-- behind whole lines without a mark, a last line that is a mark, without a line feed, cuts the input: the log before it, an empty script
pub cut_last : (input : List ℕ) (at : ℕ) (rest : List ℕ) → at < length input → IsWhole (take at input) → IsRest input at rest → IsFirstByte (is_byte 10) rest None → is_mark rest ≡ true → IsMarked input (take at input) []
cut_last input at rest more w is h marks =
    let all = input_is input at rest is in
    record {
      mark = rest;
      marks = marks;
      unmarked = w.unmarked;
      in_lines = ap lines all ∙ w.before rest ∙ ap (λ (ls : List (List ℕ)). lines (take at input) ++ ls) (last-line rest h (omega (arith, length-drop at input, ap length (all_of_rest input at rest is))));
      in_bytes = inr (all, refl);
    }

-- behind whole lines without a mark, where the last line lacks its line feed and is no mark, no line of the input is a mark
pub none_last : (input : List ℕ) (at : ℕ) (rest : List ℕ) → at < length input → IsWhole (take at input) → IsRest input at rest → IsFirstByte (is_byte 10) rest None → is_mark rest ≡ false → list_any is_mark (lines input) ≡ false
none_last input at rest more w is h plain =
    let all = input_is input at rest is in
    let ends : lines rest ≡ rest ∷ [] = last-line rest h (omega (arith, length-drop at input, ap length (all_of_rest input at rest is))) in
    ap (list_any is_mark) (ap lines all ∙ w.before rest) ∙ list_any-append is_mark (lines (take at input)) (lines rest) ∙ rw (w.unmarked, ends, plain) refl
