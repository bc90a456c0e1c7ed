-- A walk over the job line that bytes begin with, whose end is not known before: whatever follows a front of the bytes
-- without a line feed, the values of its words were met.
use Rattle.std.proofs.Common.{◌≡◌, ℕ, zero, suc, ◌+◌, ◌-◌, ◌<◌, ◌≤◌, Bool, true, false, eqb, ◌||◌, List, [], ◌∷◌, ◌++◌, length, get_or, take, drop, Ok, ℤ, refl, sym, ap, subst, ◌∙◌, append_assoc, arith}
use Rattle.std.specs.List.{list_all, list_any, prefix_len, suffix_len, position_or_len, before_first, after_first}
use Rattle.std.proofs.lemmas.Grind.{common_steps}
use Rattle.std.proofs.lemmas.Bool.{le-leb, lt-ltb, or_parts}
use Rattle.std.proofs.lemmas.List.{append-nil, length-append, take_all, take_at, drop_at, get_or-append_right, get_or_append_left}
use Rattle.std.proofs.lemmas.List.Folds.{list_any-append}
use Rattle.std.proofs.lemmas.List.Sums.{suffix_len_is}
use Rattle.swf_text.specs.Line.{is_blank, is_return, without_returns, from_first, job_line, job_of_values, line_by_front, line_of}
use Rattle.swf_text.specs.Scan.{EndedWord, NextWord}
use Rattle.swf_text.specs.Text.{is_feed}
use Rattle.swf_text.proofs.Lines.{short_line}
use Rattle.swf_text.proofs.Numbers.{and_first, and_second}
use Rattle.swf_text.proofs.Plains.{is_plain, spelling_plain}
use Rattle.swf_text.proofs.Walks.{IsMet, next_behind, next_ended, next_here, walk_kept, walk_end}

-- a byte from `-` to `9` is taken for a byte of a number
pub plain_from : (b : ℕ) → 45 ≤ b → b ≤ 57 → is_plain b ≡ true
plain_from b low high = rw (le-leb 45 b low, lt-ltb b 58 (omega (arith, high))) refl

plain_no_feed : (b : ℕ) → is_plain b ≡ true → is_feed b ≡ false
plain_no_feed b h = grind (arith, common_steps)

plain_no_return : (b : ℕ) → is_plain b ≡ true → is_return b ≡ false
plain_no_return b h = grind (arith, common_steps)

plain_no_comment : (b : ℕ) → is_plain b ≡ true → eqb b 59 ≡ false
plain_no_comment b h = grind (arith, common_steps)

plain_front : (b : ℕ) → is_plain b ≡ true → is_blank b ≡ false
plain_front b h = grind (arith, common_steps)

word_no_feed : (bs : List ℕ) → list_all is_plain bs ≡ true → list_any is_feed bs ≡ false
word_no_feed [] h = refl
word_no_feed (b ∷ bs) h = rw (plain_no_feed b (and_first _ _ h), word_no_feed bs (and_second (is_plain b) (list_all is_plain bs) h)) refl

plain_at : (bs : List ℕ) (k : ℕ) → list_all is_plain bs ≡ true → k < length bs → is_plain (get_or bs k 0) ≡ true
plain_at [] k h l = absurd (omega arith)
plain_at (b ∷ bs) zero h l = and_first _ _ h
plain_at (b ∷ bs) (suc k) h l = plain_at bs k (and_second (is_plain b) (list_all is_plain bs) h) (omega arith)

cut_place : (line rest : List ℕ) → list_any is_feed line ≡ false → position_or_len is_feed (line ++ 10 ∷ rest) ≡ length line
cut_place [] rest none = refl
cut_place (b ∷ bs) rest none =
    let parts = or_parts (is_feed b) (list_any is_feed bs) none in
    let other = parts.0 in
    rw other (omega (arith, cut_place bs rest parts.1))

pub cut_line : (bytes line rest : List ℕ) → bytes ≡ line ++ 10 ∷ rest → list_any is_feed line ≡ false → line ≡ before_first is_feed bytes
cut_line bytes line rest is none =
    sym (ap (before_first is_feed) is ∙ ap (λ (k : ℕ). take k (line ++ 10 ∷ rest)) (cut_place line rest none) ∙ take_at line (10 ∷ rest) (length line) refl)

pub cut_rest : (bytes line rest : List ℕ) → bytes ≡ line ++ 10 ∷ rest → list_any is_feed line ≡ false → rest ≡ after_first is_feed bytes
cut_rest bytes line rest is none =
    let len : length (line ++ 10 ∷ []) ≡ length line + 1 = length-append line (10 ∷ []) in
    sym (ap (after_first is_feed) is ∙ ap (λ (k : ℕ). drop (k + 1) (line ++ 10 ∷ rest)) (cut_place line rest none)
    ∙ ap (drop (length line + 1)) (sym (append_assoc line (10 ∷ []) rest)) ∙ drop_at (line ++ 10 ∷ []) rest (length line + 1) len)

pub bare_line : (line : List ℕ) → 0 < length line → is_plain (get_or line (length line - 1) 0) ≡ true → without_returns line ≡ line
bare_line line some last =
    let none : suffix_len is_return line ≡ length line - length line =
    suffix_len_is is_return line (length line) 0 (omega arith) (λ k low high. absurd (omega (arith, low, high))) (λ l. plain_no_return (get_or line (length line - 1) 0) last) in
    take_all (length line - suffix_len is_return line) line (omega (arith, none))

first_plain : (line : List ℕ) → 0 < length line → is_plain (get_or line 0 0) ≡ true → line_by_front line (from_first line) ≡ job_line line
first_plain [] some first = absurd (omega arith)
first_plain (b ∷ bs) some first =
    let other = plain_front b first in
    let count : prefix_len is_blank (b ∷ bs) ≡ 0 = rw other refl in
    let front : from_first (b ∷ bs) ≡ b ∷ bs = ap (λ (k : ℕ). drop k (b ∷ bs)) count in
    let no = plain_no_comment b first in
    ap (line_by_front (b ∷ bs)) front ∙ rw no refl

pub plain_line : (line : List ℕ) → length line ≤ 65536 → 0 < length line → is_plain (get_or line 0 0) ≡ true → is_plain (get_or line (length line - 1) 0) ≡ true → line_of line ≡ job_line line
plain_line line short some first last =
    let bare = bare_line line some last in
    short_line line short ∙ ap (λ (l : List ℕ). line_by_front l (from_first l)) bare ∙ first_plain line some first

-- a front of the bytes, without a line feed, was walked over: whatever follows it, these values were met
pub record IsWalked (bytes : List ℕ) (values : List ℤ) (count : ℕ) (rest : List ℕ) : Type 0 where
  pub front : List ℕ
  pub is : bytes ≡ front ++ rest
  pub one_line : list_any is_feed front ≡ false
  pub met : (tail : List ℕ) → IsMet (front ++ tail) values count tail

-- a word more, before a space
pub walked_more : (bytes : List ℕ) (values next : List ℤ) (count : ℕ) (rest after : List ℕ) (v : ℤ) → IsWalked bytes values count rest → next ≡ values ++ v ∷ [] → EndedWord rest v 32 after → IsWalked bytes next (count + 1) after
walked_more bytes values next count rest after v walked next_is h =
    let plain = spelling_plain h.word v h.spells in
    let front : List ℕ = walked.front ++ (h.word ++ 32 ∷ []) in
    let joined : (tail : List ℕ) → walked.front ++ (h.word ++ 32 ∷ tail) ≡ front ++ tail =
    λ tail. ap (λ (l : List ℕ). walked.front ++ l) (sym (append_assoc h.word (32 ∷ []) tail)) ∙ sym (append_assoc walked.front (h.word ++ 32 ∷ []) tail) in
    let step : (tail : List ℕ) → IsMet (walked.front ++ (h.word ++ 32 ∷ tail)) next (count + 1) tail = λ tail.
    let bytes' : List ℕ = h.word ++ 32 ∷ tail in
    let word : NextWord bytes' v tail = next_ended bytes' tail v (record { word = h.word; is = refl; spells = h.spells }) in
    walk_kept (walked.front ++ bytes') values next count bytes' tail v (walked.met bytes') next_is (next_behind bytes' bytes' tail v refl word) in
    record {
      front = front;
      is = walked.is ∙ ap (λ (l : List ℕ). walked.front ++ l) h.is ∙ joined after;
      one_line = list_any-append is_feed walked.front (h.word ++ 32 ∷ [])
          ∙ ap (λ (b : Bool). b || list_any is_feed (h.word ++ 32 ∷ [])) walked.one_line
          ∙ list_any-append is_feed h.word (32 ∷ []) ∙ ap (λ (b : Bool). b || false) (word_no_feed h.word plain.0);
      met = λ tail. subst (λ (l : List ℕ). IsMet l next (count + 1) tail) (joined tail) (step tail);
    }

module _ (bytes : List ℕ) (values all : List ℤ) (rest after : List ℕ) (v : ℤ) (walked : IsWalked bytes values 17 rest) (all_is : all ≡ values ++ v ∷ []) (h : EndedWord rest v 10 after) where
  plain : (list_all is_plain h.word ≡ true) × (0 < length h.word)
  plain = spelling_plain h.word v h.spells

  abbrev line : List ℕ
  line = walked.front ++ h.word

  whole : bytes ≡ line ++ 10 ∷ after
  whole = walked.is ∙ ap (λ (l : List ℕ). walked.front ++ l) h.is ∙ sym (append_assoc walked.front h.word (10 ∷ after))

  no_feed : list_any is_feed line ≡ false
  no_feed = list_any-append is_feed walked.front h.word ∙ ap (λ (b : Bool). b || list_any is_feed h.word) walked.one_line ∙ word_no_feed h.word plain.0

  job : job_line line ≡ job_of_values (Ok all)
  job =
      let word : NextWord h.word v [] = next_here h.word [] v (record { word = h.word; is = sym (append-nil h.word); spells = h.spells; end = refl }) in
      walk_end line all all [] [] (walk_kept line values all 17 h.word [] v (walked.met h.word) all_is (next_behind h.word h.word [] v refl word)) refl refl refl

  size : length line ≡ length walked.front + length h.word
  size = length-append walked.front h.word

  last : is_plain (get_or line (length line - 1) 0) ≡ true
  last =
      let at : get_or line (length line - 1) 0 ≡ get_or h.word (length line - 1 - length walked.front) 0 = get_or-append_right walked.front h.word (length walked.front) (length line - 1) 0 refl (omega (arith, size, plain.1)) in
      ap is_plain at ∙ plain_at h.word (length line - 1 - length walked.front) plain.0 (omega (arith, size, plain.1))

  -- behind seventeen values, one more that a line feed ends: where the bytes begin with a byte of a number, and no more than 65536 stand up to
  -- that feed, it included, their first line is the job line of these eighteen values
  pub walked_line : length bytes - length after ≤ 65536 → is_plain (get_or bytes 0 0) ≡ true → line_of (before_first is_feed bytes) ≡ job_of_values (Ok all)
  walked_line short first =
      let some : 0 < length line = omega (arith, size, plain.1) in
      let same : get_or bytes 0 0 ≡ get_or line 0 0 = ap (λ (l : List ℕ). get_or l 0 0) whole ∙ get_or_append_left line (10 ∷ after) 0 0 some in
      let len : length bytes ≡ length line + suc (length after) = ap length whole ∙ length-append line (10 ∷ after) in
      ap line_of (sym (cut_line bytes line after whole no_feed)) ∙ plain_line line (omega (arith, short, len)) some (sym (ap is_plain same) ∙ first) last ∙ job

  -- behind seventeen values, one more that a line feed ends: what follows that feed is what follows the first line feed of the bytes
  pub walked_rest : after ≡ after_first is_feed bytes
  walked_rest = cut_rest bytes line after whole no_feed
