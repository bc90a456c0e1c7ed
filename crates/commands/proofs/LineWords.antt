-- The words of a line as they are gathered, twenty at most; what stands beside a word in a table; and names, which are text.
use Rattle.std.proofs.Common.{◌≡◌, ℕ, zero, suc, ◌<◌, ◌≤◌, true, ◌&&◌, leb, List, [], ◌∷◌, ◌++◌, length, take, map, find, Bor, inl, inr, refl, sym, ap, ◌∙◌, append_assoc, arith, rules}
use Rattle.std.specs.List.{list_all}
use Rattle.std.specs.Prelude.{Result, Ok, Err, MatchResult, IsOk, Option}
use Rattle.std.specs.Option.{option_map}
use Rattle.std.specs.Str.{IsAscii, IsUtf8, bytes_eq}
use Rattle.std.proofs.lemmas.Bool.{cases_Bool}
use Rattle.std.proofs.lemmas.Grind.{common_steps}
use Rattle.std.proofs.lemmas.List.{append-nil, take_all, take_at}
use Rattle.std.proofs.lemmas.Str.{IsUtf8-from_ascii}
use Rattle.swf_text.specs.Line.{fields}
use Rattle.swf_text.specs.Scan.{first_word, after_word}
use Rattle.swf_text.proofs.Lemmas.{and_first, and_second, fields-next, fields-end, word_left, no_word_left}
use Rattle.scenarios.specs.Name.{is_name, is_name_byte}

-- where words, and those of the rest behind them, are a line's, so are these words and the next, and those of what follows it
pub words_next : (xs : List (List ℕ)) (rest word after line : List ℕ) → xs ++ fields rest ≡ fields line → word ≡ first_word rest → after ≡ after_word rest → 0 < length word → (xs ++ word ∷ []) ++ fields after ≡ fields line
words_next xs rest word after line sofar is others some =
    let left : 0 < length (first_word rest) = omega (arith, ap length is) in
    append_assoc xs (word ∷ []) (fields after)
    ∙ ap (λ (w : List ℕ). xs ++ w ∷ fields after) is
    ∙ ap (λ (l : List ℕ). xs ++ first_word rest ∷ fields l) others
    ∙ ap (λ (l : List (List ℕ)). xs ++ l) (sym (fields-next rest (word_left rest left)))
    ∙ sofar

-- where the rest has no word, the words before it, twenty at most, are the first twenty of the line
pub words_end : (xs : List (List ℕ)) (rest word line : List ℕ) → xs ++ fields rest ≡ fields line → word ≡ first_word rest → length word ≡ 0 → length xs ≤ 20 → xs ≡ take 20 (fields line)
words_end xs rest word line sofar is none few =
    let all : xs ≡ fields line = sym (append-nil xs) ∙ ap (λ (l : List (List ℕ)). xs ++ l) (sym (fields-end rest (no_word_left rest (omega (arith, ap length is, none))))) ∙ sofar in
    sym (take_all 20 xs few) ∙ ap (take 20) all

-- twenty words in front of those of the rest are the first twenty of the line
pub words_full : (xs : List (List ℕ)) (rest line : List ℕ) → xs ++ fields rest ≡ fields line → length xs ≡ 20 → xs ≡ take 20 (fields line)
words_full xs rest line sofar full = sym (take_at xs (fields rest) 20 full) ∙ ap (take 20) sofar

module _ {X : Type 0} (word : List ℕ) where
  abbrev at_reference : List (Bor (List ℕ) × X) → Option X
  at_reference entries = option_map (λ (e : Bor (List ℕ) × X). e.1) (find (λ (e : Bor (List ℕ) × X). bytes_eq e.0.now word) entries)

  abbrev at_word : List (Bor (List ℕ) × X) → Option X
  at_word entries = option_map (λ (e : List ℕ × X). e.1) (find (λ (e : List ℕ × X). bytes_eq e.0 word) (map (λ (e : Bor (List ℕ) × X). (e.0.now, e.1)) entries))

  both : (entries : List (Bor (List ℕ) × X)) → at_reference entries ≡ at_word entries
  both [] = refl
  both (e ∷ es) = elim (cases_Bool (bytes_eq e.0.now word)) [ inl is ↦ rw is refl | inr other ↦ rw other (both es) ]

  -- what stands beside a word in a table that has its words by reference is what stands beside it in the table of the words
  pub found_beside : (entries table : List (Bor (List ℕ) × X)) {r : Option X} → entries ≡ table → r ≡ at_reference entries → r ≡ at_word table
  found_beside entries table is e = e ∙ both entries ∙ ap at_word is

name_byte_low : (b : ℕ) → is_name_byte b ≡ true → b < 128
name_byte_low b h = grind (arith, common_steps)

names_ascii : (bytes : List ℕ) → list_all is_name_byte bytes ≡ true → IsAscii bytes
names_ascii [] h i = omega arith
names_ascii (b ∷ bytes) h zero = name_byte_low b (and_first _ _ h)
names_ascii (b ∷ bytes) h (suc i) = names_ascii bytes (and_second (is_name_byte b) (list_all is_name_byte bytes) h) i

-- each byte of a name is one that names may have
pub name_bytes : (bytes : List ℕ) → is_name bytes ≡ true → list_all is_name_byte bytes ≡ true
name_bytes bytes h = and_second (leb 1 (length bytes) && leb (length bytes) 16) (list_all is_name_byte bytes) h

-- a name is UTF-8
pub IsUtf8-name : (bytes : List ℕ) → is_name bytes ≡ true → IsUtf8 bytes
IsUtf8-name bytes h = IsUtf8-from_ascii bytes (names_ascii bytes (name_bytes bytes h))

-- a name has at most sixteen bytes
pub length-name : (bytes : List ℕ) → is_name bytes ≡ true → length bytes ≤ 16
length-name bytes h =
    let both = and_first (leb 1 (length bytes) && leb (length bytes) 16) (list_all is_name_byte bytes) h in
    le-leb (length bytes) 16 (and_second (leb 1 (length bytes)) (leb (length bytes) 16) both)
  where
    le-leb : (a b : ℕ) → leb a b ≡ true → a ≤ b
    le-leb a b e = grind (arith, common_steps)

-- a result whose fault can't be has a value
pub ok_unless : {T E : Type 0} (r : Result T E) (P : T → Type 0) (Q : E → Type 0) → MatchResult r P Q → ((e : E) → Q e → ⊥) → IsOk r
ok_unless (Ok x) P Q h never = search rules
ok_unless (Err e) P Q h never = absurd (never e h)
