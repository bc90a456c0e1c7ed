-- The eighteen words behind `insert`: the value of a word, the loop that reads one after another, and the entry of the values.
use Rattle.std.proofs.Common.{◌≡◌, ℕ, zero, suc, ◌+◌, ◌*◌, ◌%◌, ◌/◌, ◌<◌, ◌≤◌, Bool, true, false, leb, List, [], ◌∷◌, ◌++◌, length, get_or, take, drop, set, Option, Some, None, Result, Ok, Err, ℤ, pos, refl, sym, ap, ◌∙◌, arith, add-one, add-zero, drop-cons, rules}
use Rattle.std.specs.Prelude.{IfSome}
use Rattle.std.specs.Option.{option_map}
use Rattle.std.proofs.Math.Seq.{take-suc-set}
use Rattle.std.proofs.Math.ListN.{drop_of_length-le}
use Rattle.std.proofs.lemmas.Grind.{common_steps}
use Rattle.std.proofs.lemmas.List.{append-nil, take_all}
use Rattle.swf_text.specs.Number.{Spells, are_digits, digits_value, number_of, is_below_zero}
use Rattle.swf_text.specs.Entry.{field, whole_number, is_partial, entry_made}
use Rattle.swf_text.specs.Line.{value_then}
use Rattle.swf_text.proofs.Lemmas.{Spells-number_of, number_of-Spells, onto, onto-value_then}
use Rattle.commands.specs.Words.{job_number, job_value, may_stand, standing, entry_value, entry_values}

-- what `from_bytes` promises is the value of the word
pub from_bytes_is : (bytes : List ℕ) (r : Option ℤ) → IfSome r (λ v. Spells bytes v) → ((v : ℤ) → Spells bytes v → r ≡ Some v) → r ≡ number_of bytes
from_bytes_is bytes (Some v) spells only = sym (number_of-Spells bytes v spells)
from_bytes_is bytes None spells only = go (number_of bytes) refl
  where
    go : (o : Option ℤ) → number_of bytes ≡ o → None ≡ number_of bytes
    go None e = sym e
    go (Some v) e = only v (Spells-number_of bytes v e) ∙ sym e

digits_spell : (word : List ℕ) → are_digits word ≡ true → digits_value word ≤ 1000000000000 → Spells word (pos (1000000 * digits_value word))
digits_spell word digits few = record {
  parts = record { is_negative = false; whole = word; fraction = None };
  is_text = sym (append-nil word);
  whole = search (rules, digits);
  fraction = tt;
  fits = omega arith;
  value = ap pos (omega arith);
}

le-leb : (a b : ℕ) → leb a b ≡ true → a ≤ b
le-leb a b e = grind (arith, common_steps)

zero-leb : (a : ℕ) → leb 0 a ≡ true
zero-leb a = grind (arith, common_steps)

-- a word that is a job number has the same value read as any number
pub job_value-is : (word : List ℕ) (n : ℕ) → job_number word ≡ Some n → number_of word ≡ job_value word
job_value-is word n is = go (are_digits word) refl (leb (digits_value word) 1000000000000) refl (zero-leb (digits_value word)) is
  where
    go : (a : Bool) → are_digits word ≡ a → (b : Bool) → leb (digits_value word) 1000000000000 ≡ b → leb 0 (digits_value word) ≡ true → job_number word ≡ Some n → number_of word ≡ job_value word
    go true ea true eb least h = rw (ea, least, eb) (number_of-Spells word (pos (1000000 * digits_value word)) (digits_spell word ea (le-leb (digits_value word) 1000000000000 eb)))
    go true ea false eb least h = let wrong : None ≡ Some n = rw (ea, least, eb) at h in absurd (cc)
    go false ea b eb least h = let wrong : None ≡ Some n = rw ea at h in absurd (cc)

-- the values before a place, the one of the word there behind them, and what the words behind it give are what all eighteen words give
pub values_step : (words : List (List ℕ)) (values : List ℤ) (place : ℕ) (v : ℤ) → length words ≡ 18 → length values ≡ 18 → place < 18 → onto (take place values) (entry_values (place + 1) (drop place words)) ≡ entry_values 1 words → entry_value (place + 1) (get_or words place []) ≡ Some v
    → onto (take (place + 1) (set values place v)) (entry_values (place + 1 + 1) (drop (place + 1) words)) ≡ entry_values 1 words
unfolding entry_values
values_step words values place v count sized more sofar some =
    let next : drop place words ≡ get_or words place [] ∷ drop (place + 1) words = rw add-one (drop-cons words place [] (omega arith)) in
    let written : take (place + 1) (set values place v) ≡ take place values ++ v ∷ [] = rw add-one (take-suc-set values place v (omega arith)) in
    let rest = entry_values (place + 1 + 1) (drop (place + 1) words) in
    ap (λ (front : List ℤ). onto front rest) written
    ∙ sym (onto-value_then (take place values) (place + 1) v rest)
    ∙ ap (λ (o : Option ℤ). onto (take place values) (value_then (place + 1) o rest)) (sym some)
    ∙ ap (λ (ws : List (List ℕ)). onto (take place values) (entry_values (place + 1) ws)) (sym next)
    ∙ sofar

-- where the words before a place have values and the one there has none, what all eighteen give is this place, counted from one
pub values_stop : (words : List (List ℕ)) (values : List ℤ) (place : ℕ) → length words ≡ 18 → place < 18 → onto (take place values) (entry_values (place + 1) (drop place words)) ≡ entry_values 1 words → entry_value (place + 1) (get_or words place []) ≡ None
    → Err (place + 1) ≡ entry_values 1 words
unfolding entry_values
values_stop words values place count more sofar none =
    let next : drop place words ≡ get_or words place [] ∷ drop (place + 1) words = rw add-one (drop-cons words place [] (omega arith)) in
    let rest = entry_values (place + 1 + 1) (drop (place + 1) words) in
    ap (λ (o : Option ℤ). onto (take place values) (value_then (place + 1) o rest)) (sym none)
    ∙ ap (λ (ws : List (List ℕ)). onto (take place values) (entry_values (place + 1) ws)) (sym next)
    ∙ sofar

-- the values of all eighteen words, once none is left, are what the words give
pub values_end : (words : List (List ℕ)) (values : List ℤ) (place : ℕ) → length words ≡ 18 → length values ≡ 18 → 18 ≤ place → onto (take place values) (entry_values (place + 1) (drop place words)) ≡ entry_values 1 words → Ok values ≡ entry_values 1 words
unfolding entry_values
values_end words values place count sized done sofar =
    let none : drop place words ≡ [] = drop_of_length-le words (omega arith) in
    ap Ok (sym (append-nil values) ∙ ap (λ (l : List ℤ). l ++ []) (sym (take_all place values (omega arith))))
    ∙ ap (λ (ws : List (List ℕ)). onto (take place values) (entry_values (place + 1) ws)) (sym none)
    ∙ sofar

value_at : (place : ℕ) (words : List (List ℕ)) (values : List ℤ) → entry_values place words ≡ Ok values → (k : ℕ) → k < length words → entry_value (place + k) (get_or words k []) ≡ Some (get_or values k (pos 0))
unfolding entry_values
value_at place [] values h k lt = absurd (omega arith)
value_at place (word ∷ words) values h k lt = go (entry_value place word) refl (entry_values (place + 1) words) refl (value_at (place + 1) words) h k lt
  where
    go : (o : Option ℤ) → entry_value place word ≡ o → (r : Result (List ℤ) ℕ) → entry_values (place + 1) words ≡ r → ((vs : List ℤ) → entry_values (place + 1) words ≡ Ok vs → (j : ℕ) → j < length words → entry_value (place + 1 + j) (get_or words j []) ≡ Some (get_or vs j (pos 0))) → value_then place o r ≡ Ok values → (i : ℕ) → i < length (word ∷ words) → entry_value (place + i) (get_or (word ∷ words) i []) ≡ Some (get_or values i (pos 0))
    go None eo r er more e i less = absurd (cc)
    go (Some v) eo (Err p) er more e i less = absurd (cc)
    go (Some v) eo (Ok vs) er more e zero less =
        let is : v ∷ vs ≡ values = cc in
        ap (λ (n : ℕ). entry_value n word) (add-zero place) ∙ eo ∙ ap (λ (l : List ℤ). Some (get_or l 0 (pos 0))) is
    go (Some v) eo (Ok vs) er more e (suc i) less =
        let is : v ∷ vs ≡ values = cc in
        let there : place + suc i ≡ place + 1 + i = omega arith in
        ap (λ (n : ℕ). entry_value n (get_or words i [])) there ∙ more vs er i (omega arith) ∙ ap (λ (l : List ℤ). Some (get_or l (suc i) (pos 0))) is

whole_of_job : (n : ℕ) → whole_number (pos (1000000 * n)) ≡ Some n
whole_of_job n =
    let none : (1000000 * n) % 1000000 ≡ 0 = omega arith in
    let some : (1000000 * n) / 1000000 ≡ n = omega arith in
    rw (none, some) refl

number_is : (word : List ℕ) (v : ℤ) (o : Option ℕ) → job_number word ≡ o → option_map (λ n. pos (1000000 * n)) o ≡ Some v → (n : ℕ) × (whole_number v ≡ Some n)
number_is word v None e h = absurd (cc)
number_is word v (Some n) e h = let is : pos (1000000 * n) ≡ v = cc in (n, ap whole_number (sym is) ∙ whole_of_job n)

stands : (place : ℕ) (o : Option ℤ) (v : ℤ) → standing place o ≡ Some v → may_stand place v ≡ true
stands place None v h = absurd (cc)
stands place (Some u) v h = go (may_stand place u) refl h
  where
    go : (b : Bool) → may_stand place u ≡ b → standing place (Some u) ≡ Some v → may_stand place v ≡ true
    go true e h' = let is : Some u ≡ Some v = rw e at h' in let same : u ≡ v = cc in ap (may_stand place) (sym same) ∙ e
    go false e h' = let wrong : None ≡ Some v = rw e at h' in absurd (cc)

not_negative : (v : ℤ) → may_stand 2 v ≡ true → is_below_zero v ≡ false
not_negative v h = go (is_below_zero v) refl h
  where
    go : (b : Bool) → is_below_zero v ≡ b → may_stand 2 v ≡ true → is_below_zero v ≡ false
    go true e h' = let wrong : false ≡ true = rw e at h' in absurd (cc)
    go false e h' = e

not_partial : (v : ℤ) → may_stand 11 v ≡ true → is_partial v ≡ false
not_partial v h = go (is_partial v) refl h
  where
    go : (b : Bool) → is_partial v ≡ b → may_stand 11 v ≡ true → is_partial v ≡ false
    go true e h' = let wrong : false ≡ true = rw e at h' in absurd (cc)
    go false e h' = e

made_by : (values : List ℤ) (n : ℕ) → whole_number (field values 1) ≡ Some n → is_below_zero (field values 2) ≡ false → is_partial (field values 11) ≡ false → entry_made values [] ≡ Ok (record { main = values; parts = [] })
made_by values n number submit status = rw (number, submit, status) refl

-- eighteen values that were read of words make an entry without partial lines
pub entry_is_made : (words : List (List ℕ)) (values : List ℤ) → length words ≡ 18 → entry_values 1 words ≡ Ok values → entry_made values [] ≡ Ok (record { main = values; parts = [] })
entry_is_made words values count h =
    let number = number_is (get_or words 0 []) (get_or values 0 (pos 0)) (job_number (get_or words 0 [])) refl (value_at 1 words values h 0 (omega arith)) in
    let submit = not_negative (get_or values 1 (pos 0)) (stands 2 (number_of (get_or words 1 [])) (get_or values 1 (pos 0)) (value_at 1 words values h 1 (omega arith))) in
    let status = not_partial (get_or values 10 (pos 0)) (stands 11 (number_of (get_or words 10 [])) (get_or values 10 (pos 0)) (value_at 1 words values h 10 (omega arith))) in
    made_by values number.0 number.1 submit status
