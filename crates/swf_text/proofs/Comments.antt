-- The comments that are read are sound: no line has a line feed, and a line without its carriage returns doesn't end with one.
use Rattle.std.proofs.Common.{◌≡◌, ℕ, zero, suc, ◌+◌, ◌-◌, ◌<◌, ◌≤◌, Bool, false, not, List, [], ◌∷◌, length, get_or, reverse, refl, sym, ap, subst, ◌∙◌, arith, inl, inr}
use Rattle.std.specs.List.{AllByRecursion, list_any, prefix_len, suffix_len, position_or_len, before_first, after_first}
use Rattle.std.proofs.lemmas.Bool.{cases_Bool}
use Rattle.std.proofs.lemmas.List.{get_or-take, get_or-drop, get_or-reverse, length-take-le, length-drop, length-reverse}
use Rattle.std.proofs.lemmas.List.Sums.{prefix_len-le-length, suffix_len-le-length, fails_before_first}
use Rattle.std.proofs.lemmas.Option.{get_or_from_slice_get, slice_get_within}
use Rattle.swf_text.specs.declared.line.LineRead.TheVariants as read
use Rattle.swf_text.specs.Line.{is_blank, is_return, without_returns, from_first, IsReadAs}
use Rattle.swf_text.specs.Text.{is_feed, lines}
use Rattle.swf_text.specs.Comment.{IsComment}
use Rattle.swf_text.proofs.Texts.{lines-next, after-shorter}
use Rattle.swf_text.proofs.Printed.{HasNoFeed, none_passes}

none_any : {X : Type 0} (p : X → Bool) (xs : List X) → ((k : ℕ) (d : X) → k < length xs → p (get_or xs k d) ≡ false) → list_any p xs ≡ false
none_any p [] h = refl
none_any p (x ∷ xs) h =
    let here : p x ≡ false = h 0 x (omega arith) in
    let rest = none_any p xs (λ k d lt. h (suc k) d (omega (arith, lt))) in
    rw (here, rest) refl

before_no_feed : (bs : List ℕ) → HasNoFeed (before_first is_feed bs)
before_no_feed bs =
    let place = prefix_len-le-length (λ b. not (is_feed b)) bs in
    let count : length (before_first is_feed bs) ≡ position_or_len is_feed bs = length-take-le (position_or_len is_feed bs) bs place in
    none_any is_feed (before_first is_feed bs) (λ k d lt.
    let within : k < position_or_len is_feed bs = omega (arith, lt, count) in
    ap is_feed (get_or-take (position_or_len is_feed bs) bs k d within) ∙ fails_before_first is_feed bs k d within)

no_feed_from : (fuel : ℕ) (bs : List ℕ) → length bs ≤ fuel → AllByRecursion HasNoFeed (lines bs)
no_feed_from fuel [] le = tt
no_feed_from zero (b ∷ bs) le = absurd (omega arith)
no_feed_from (suc fuel) (b ∷ bs) le =
    subst (AllByRecursion HasNoFeed) (sym (lines-next (b ∷ bs) (omega arith)))
    (before_no_feed (b ∷ bs), no_feed_from fuel (after_first is_feed (b ∷ bs)) (omega (arith, after-shorter (b ∷ bs) (omega arith))))

-- no line of the bytes has a line feed
pub lines_no_feed : (bytes : List ℕ) → AllByRecursion HasNoFeed (lines bytes)
lines_no_feed bytes = no_feed_from (length bytes) bytes (omega arith)

prefix_stops : {X : Type 0} (p : X → Bool) (xs : List X) (d : X) → prefix_len p xs < length xs → p (get_or xs (prefix_len p xs) d) ≡ false
prefix_stops p [] d lt = absurd (omega arith)
prefix_stops p (x ∷ xs) d lt = elim (cases_Bool (p x)) [
  | inl here ↦
      let count : prefix_len p (x ∷ xs) ≡ suc (prefix_len p xs) = rw here (omega arith) in
      ap (λ (k : ℕ). p (get_or (x ∷ xs) k d)) count ∙ prefix_stops p xs d (omega (arith, lt, count))
  | inr other ↦ let count : prefix_len p (x ∷ xs) ≡ 0 = rw other refl in ap (λ (k : ℕ). p (get_or (x ∷ xs) k d)) count ∙ other
]

last_no_return : (line : List ℕ) → 0 < length (without_returns line) → is_return (get_or (without_returns line) (length (without_returns line) - 1) 0) ≡ false
last_no_return line some =
    let count = suffix_len is_return line in
    let within = suffix_len-le-length is_return line in
    let size : length (without_returns line) ≡ length line - count = length-take-le (length line - count) line (omega arith) in
    let stop : is_return (get_or (reverse line) count 0) ≡ false = prefix_stops is_return (reverse line) 0 (omega (arith, length-reverse line, some, size)) in
    let place : length line - 1 - count ≡ length (without_returns line) - 1 = omega (arith, size) in
    let here : get_or (without_returns line) (length (without_returns line) - 1) 0 ≡ get_or line (length line - 1 - count) 0 =
    get_or-take (length line - count) line (length (without_returns line) - 1) 0 (omega (arith, some, size)) ∙ ap (λ (k : ℕ). get_or line k 0) (sym place) in
    ap is_return (here ∙ sym (get_or-reverse line count 0 (omega (arith, some, size)))) ∙ stop

-- what a comment line adds is sound
pub read_comment : (line : List ℕ) → HasNoFeed line → IsReadAs line read.Comment → IsComment (from_first (without_returns line))
read_comment line no_feed h =
    let whole = without_returns line in
    let comment = from_first whole in
    let skip = prefix_len is_blank whole in
    let cut : length whole ≤ length line = omega (arith, length-take-le (length line - suffix_len is_return line) line (omega (arith, suffix_len-le-length is_return line))) in
    let count : length comment ≡ length whole - skip = length-drop skip whole in
    let some : 0 < length comment = slice_get_within comment 0 59 h.1 in
    let last : skip + (length comment - 1) ≡ length whole - 1 = omega (arith, count, some) in
    record {
      begins = get_or_from_slice_get comment 0 59 0 h.1;
      no_feed = none_any is_feed comment (λ k d lt.
          let there : skip + k < length whole = omega (arith, lt, count) in
          ap is_feed (get_or-drop skip whole k d ∙ get_or-take (length line - suffix_len is_return line) line (skip + k) d (omega (arith, there, length-take-le (length line - suffix_len is_return line) line (omega (arith, suffix_len-le-length is_return line)))))
          ∙ none_passes is_feed line no_feed (skip + k) d (omega (arith, there, cut)));
      no_return = ap is_return (get_or-drop skip whole (length comment - 1) 0 ∙ ap (λ (k : ℕ). get_or whole k 0) last) ∙ last_no_return line (omega (arith, count, some));
      fits = omega (arith, h.0, cut, count);
    }
