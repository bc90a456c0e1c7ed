-- Where no byte is a percent sign, no line is a mark.
use Rattle.std.proofs.Common.{◌≡◌, ℕ, Bool, true, false, ◌||◌, ◌==◌, List, [], ◌∷◌, length, take, None, refl, ap, ◌∙◌, arith}
use Rattle.std.specs.Prelude.{if◌then◌else◌}
use Rattle.std.specs.List.{list_any, slice_split, onto_first, All}
use Rattle.std.proofs.lemmas.Bool.{false_from_ne_true}
use Rattle.std.proofs.lemmas.List.Elements.{All-head, All-tail}
use Rattle.std.proofs.lemmas.List.Folds.{list_any-append}
use Rattle.std.proofs.lemmas.List.Sums.{position_or_len_is, fails_before_first}
use Rattle.std.proofs.lemmas.List.Splits.{slice_split-cons_yes, slice_split-cons_no}
use Rattle.memchr.specs.Find.{IsFirstByte, is_byte}
use Rattle.swf_text.specs.Text.{is_feed, lines, without_empty_end}
use Rattle.easybook.specs.Split.{is_mark}
use Rattle.easybook.proofs.Cuts.{IsWhole, IsRest, input_is}

or-left : (a b : Bool) → a || b ≡ false → a ≡ false
or-left false b h = refl
or-left true b h = h

or-right : (a b : Bool) → a || b ≡ false → b ≡ false
or-right false b h = h
or-right true b h = absurd cc

-- where two are false, the disjunction of the two is false
pub both : (a b : Bool) → a ≡ false → b ≡ false → a || b ≡ false
both a b p q = rw p q

other : (x : ℕ) (line : List ℕ) → is_byte 37 x ≡ false → is_mark (x ∷ line) ≡ false
other x line plain = rw plain refl

grown : (x : ℕ) (parts : List (List ℕ)) → is_byte 37 x ≡ false → list_any is_mark parts ≡ false → list_any is_mark (onto_first x parts) ≡ false
grown x [] plain h = both (is_mark (x ∷ [])) false (other x [] plain) refl
grown x (p ∷ ps) plain h = both (is_mark (x ∷ p)) (list_any is_mark ps) (other x p plain) (or-right (is_mark p) (list_any is_mark ps) h)

parts-unmarked : (xs : List ℕ) → All (λ x. is_byte 37 x ≡ false) xs → list_any is_mark (slice_split is_feed xs) ≡ false
parts-unmarked [] h = refl
parts-unmarked (x ∷ xs) h = go (is_feed x) refl (parts-unmarked xs (All-tail (λ y. is_byte 37 y ≡ false) x xs h))
  where
    go : (b : Bool) → is_feed x ≡ b → list_any is_mark (slice_split is_feed xs) ≡ false → list_any is_mark (slice_split is_feed (x ∷ xs)) ≡ false
    go true e rest = ap (list_any is_mark) (slice_split-cons_yes is_feed x xs e) ∙ rest
    go false e rest = ap (list_any is_mark) (slice_split-cons_no is_feed x xs e) ∙ grown x (slice_split is_feed xs) (All-head (λ y. is_byte 37 y ≡ false) x xs h) rest

end-unmarked : (parts : List (List ℕ)) → list_any is_mark parts ≡ false → list_any is_mark (without_empty_end parts) ≡ false
end-unmarked [] h = refl
end-unmarked (p ∷ []) h = go (length p == 0)
  where
    go : (b : Bool) → list_any is_mark (if b then [] else p ∷ []) ≡ false
    go true = refl
    go false = h
end-unmarked (p ∷ next ∷ parts) h =
    both (is_mark p) (list_any is_mark (without_empty_end (next ∷ parts))) (or-left (is_mark p) (list_any is_mark (next ∷ parts)) h) (end-unmarked (next ∷ parts) (or-right (is_mark p) (list_any is_mark (next ∷ parts)) h))

no-percent : (xs : List ℕ) → IsFirstByte (is_byte 37) xs None → All (λ x. is_byte 37 x ≡ false) xs
no-percent xs none i d lt = fails_before_first (is_byte 37) xs i d (omega (arith, position_or_len_is (is_byte 37) xs (length xs) 0 (omega arith) (λ j low. false_from_ne_true _ (λ found. none j (omega arith) low found)) (λ below. absurd (omega arith))))

-- whole lines without a mark, and behind them no percent sign, are an input of which no line is a mark
pub none-behind : (input : List ℕ) (at : ℕ) (rest : List ℕ) → IsWhole (take at input) → IsRest input at rest → IsFirstByte (is_byte 37) rest None → list_any is_mark (lines input) ≡ false
none-behind input at rest w is none =
    ap (list_any is_mark) (ap lines (input_is input at rest is) ∙ w.before rest) ∙ list_any-append is_mark (lines (take at input)) (lines rest)
    ∙ both (list_any is_mark (lines (take at input))) (list_any is_mark (lines rest)) w.unmarked (end-unmarked (slice_split is_feed rest) (parts-unmarked rest (no-percent rest none)))
