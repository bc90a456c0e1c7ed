-- What the tests of an entry's lines say of it, how many entries have a number, and what a job line or a partial line more adds.
use Rattle.std.proofs.Common.{◌≡◌, ℕ, zero, suc, ◌+◌, ◌<◌, ◌≤◌, Bool, true, false, cond, eqb, ltb, ◌||◌, List, [], ◌∷◌, ◌++◌, length, Some, Ok, Err, ℤ, refl, sym, ap, subst, ◌∙◌, arith, inl, inr}
use Rattle.std.specs.Prelude.{nat_abs}
use Rattle.std.proofs.Math.ListN.{set}
use Rattle.std.specs.List.{AllByRecursion, list_all, list_any, count_by}
use Rattle.std.proofs.lemmas.Bool.{cases_Bool, lt-ltb, eqb-true, eq-eqb, true≢false}
use Rattle.std.proofs.lemmas.List.{length-append, map-append}
use Rattle.std.proofs.lemmas.List.Sums.{sum_by-cons}
use Rattle.std.proofs.lemmas.List.Folds.{list_any-append}
use Rattle.swf_text.specs.Limits.{whole_limit}
use Rattle.swf_text.specs.declared.fault.EntryFault.TheVariants as faults
use Rattle.swf_text.specs.declared.line.Fields.{Fields}
use Rattle.swf_text.specs.Kept.{entry_of_lines}
use Rattle.swf_text.specs.Number.{greatest, is_below_zero}
use Rattle.swf_text.specs.Entry.{LogEntry, IsEntry, IsPart, field, has_number, is_part, is_partial, is_some_number, values, whole_number, entry_made, entry_numbered}
use Rattle.swf_text.specs.Log.{IsLog}
use Rattle.swf_text.proofs.Numbers.{and_first, and_second}
use Rattle.swf_text.proofs.Grammars.{number_exact, negative_not, has_exact}

all_parts : (number : ℕ) (parts : List (List ℤ)) → list_all (is_part number) parts ≡ true → AllByRecursion (IsPart number) parts
all_parts number [] h = tt
all_parts number (part ∷ parts) h =
    let here = and_first (is_part number part) (list_all (is_part number) parts) h in
    let numbered = has_exact number (whole_number (field part 1)) (and_first (is_some_number number (whole_number (field part 1))) (is_partial (field part 11)) here) in (
      record {
        numbered = number_exact (field part 1) number numbered;
        partial = and_second (is_some_number number (whole_number (field part 1))) (is_partial (field part 11)) here;
      },
      all_parts number parts (and_second (is_part number part) (list_all (is_part number) parts) h),
    )

-- what the tests of a summary line say of its entry
pub entry_sound : (main : List ℤ) (parts : List (List ℤ)) (number : ℕ) → length main ≡ 18 → whole_number (field main 1) ≡ Some number → number ≤ whole_limit → is_below_zero (field main 2) ≡ false → nat_abs (field main 2) ≤ greatest → is_partial (field main 11) ≡ false → list_all (is_part number) parts ≡ true → IsEntry (record { main = main; parts = parts })
entry_sound main parts number eighteen numbered small submit early summary all = record {
  number = number;
  eighteen = eighteen;
  numbered = number_exact (field main 1) number numbered;
  number_limit = small;
  submit = negative_not (field main 2) submit;
  submit_limit = early;
  summary = summary;
  parts = all_parts number parts all;
}

-- what holds of each element of a list, and of one more, holds of the list with that one set at any place
pub all_set : {X : Type 0} (P : X → Type 0) (xs : List X) (k : ℕ) (x : X) → AllByRecursion P xs → P x → AllByRecursion P (set xs k x)
all_set P [] k x h p = h
all_set P (y ∷ ys) zero x h p = (p, h.1)
all_set P (y ∷ ys) (suc k) x h p = (h.0, all_set P ys k x h.1 p)

-- what holds of all elements and of one more holds of all with that one at the end
pub all_end : {X : Type 0} (P : X → Type 0) (xs : List X) (x : X) → AllByRecursion P xs → P x → AllByRecursion P (xs ++ x ∷ [])
all_end P [] x h p = (p, tt)
all_end P (y ∷ ys) x h p = (h.0, all_end P ys x h.1 p)

-- how many pass a test with one more at the front: one more where that one passes it
pub count-cons : {X : Type 0} (p : X → Bool) (x : X) (xs : List X) (b : Bool) → p x ≡ b → count_by p (x ∷ xs) ≡ cond b 1 0 + count_by p xs
count-cons p x xs b is = sum_by-cons (λ y. cond (p y) 1 0) x xs ∙ ap (λ (c : Bool). cond c 1 0 + count_by p xs) is

-- how many of two joined lists pass a test: those of the one and those of the other
pub count-append : {X : Type 0} (p : X → Bool) (xs ys : List X) → count_by p (xs ++ ys) ≡ count_by p xs + count_by p ys
count-append p [] ys = omega arith
count-append p (x ∷ xs) ys = omega (arith, count-cons p x (xs ++ ys) (p x) refl, count-cons p x xs (p x) refl, count-append p xs ys)

or_count : (b : Bool) (n : ℕ) (rest : Bool) → rest ≡ ltb 0 n → (b || rest) ≡ ltb 0 (cond b 1 0 + n)
or_count true n rest h = sym (lt-ltb 0 (1 + n) (omega arith))
or_count false n rest h = let same : 0 + n ≡ n = omega arith in h ∙ ap (ltb 0) (sym same)

-- some element passes a test exactly where more than 0 do
pub any_counted : {X : Type 0} (p : X → Bool) (xs : List X) → list_any p xs ≡ ltb 0 (count_by p xs)
any_counted p [] = refl
any_counted p (x ∷ xs) = or_count (p x) (count_by p xs) (list_any p xs) (any_counted p xs) ∙ ap (ltb 0) (sym (count-cons p x xs (p x) refl))

-- where equally many of two lists pass a test, some element of the one does exactly where one of the other does
pub any_same : {X : Type 0} (p : X → Bool) (xs ys : List X) → count_by p xs ≡ count_by p ys → list_any p xs ≡ list_any p ys
any_same p xs ys h = any_counted p xs ∙ ap (ltb 0) h ∙ sym (any_counted p ys)

pub none_counted : {X : Type 0} (p : X → Bool) (xs : List X) → list_any p xs ≡ false → count_by p xs ≡ 0
none_counted p [] h = refl
none_counted p (x ∷ xs) h = elim (cases_Bool (p x)) [
  | inl there ↦ absurd (true≢false (sym (first there) ∙ h))
  | inr other ↦ omega (arith, count-cons p x xs false other, none_counted p xs (second other))
]
  where
    first : p x ≡ true → list_any p (x ∷ xs) ≡ true
    first there = rw there refl

    second : p x ≡ false → list_any p xs ≡ false
    second other = sym (rw other at h') where
      h' : false ≡ list_any p (x ∷ xs)
      h' = sym h

-- entries that are sound where those of a log are, as many as they, and with their numbers, are a log
pub log_kept : (old new : List LogEntry) → IsLog old → (AllByRecursion IsEntry old → AllByRecursion IsEntry new) → length new ≡ length old → ((n : ℕ) → count_by (has_number n) new ≡ count_by (has_number n) old) → IsLog new
log_kept old new log sound count numbers = record {
  sound = sound log.sound;
  distinct = λ n. omega (arith, log.distinct n, numbers n);
  capacity = omega (arith, log.capacity);
}

-- a log with an entry more, whose number is new, is a log where there is capacity
pub log_more : (old new : List LogEntry) (job : LogEntry) (number : ℕ) → IsLog old → IsEntry job → new ≡ old ++ job ∷ [] → whole_number (field job.main 1) ≡ Some number → list_any (has_number number) old ≡ false → length old < 4194304 → IsLog new
log_more old new job number log entry is numbered none capacity = record {
  sound = subst (AllByRecursion IsEntry) (sym is) (all_end IsEntry old job log.sound entry);
  distinct = λ n. omega (arith, ap (count_by (has_number n)) is, count-append (has_number n) old (job ∷ []), one n);
  capacity = omega (arith, ap length is, length-append old (job ∷ []));
}
  where
    one : (n : ℕ) → count_by (has_number n) old + count_by (has_number n) (job ∷ []) ≤ 1
    one n = go (has_number n job) refl where
      go : (b : Bool) → has_number n job ≡ b → count_by (has_number n) old + count_by (has_number n) (job ∷ []) ≤ 1
      go true there =
          let same : n ≡ number = eqb-true n number (sym (ap (is_some_number n) numbered) ∙ there) in
          let none' : count_by (has_number n) old ≡ 0 = ap (λ (k : ℕ). count_by (has_number k) old) same ∙ none_counted (has_number number) old none in
          omega (arith, count-cons (has_number n) job [] true there)
      go false other = omega (arith, log.distinct n, count-cons (has_number n) job [] false other)

-- an index of job numbers with one more: it has the numbers of the entries with the new entry at the end
pub index_more : (old new : List LogEntry) (job : LogEntry) (number : ℕ) → new ≡ old ++ job ∷ [] → whole_number (field job.main 1) ≡ Some number → (n : ℕ) (a b : Bool) → a ≡ (eqb number n || b) → b ≡ list_any (has_number n) old → a ≡ list_any (has_number n) new
index_more old new job number is numbered n a b added kept =
    let whole : list_any (has_number n) new ≡ (list_any (has_number n) old || has_number n job) = ap (list_any (has_number n)) is ∙ list_any-append (has_number n) old (job ∷ []) ∙ ap (λ (c : Bool). list_any (has_number n) old || c) (or_false (has_number n job)) in
    added ∙ ap (λ (c : Bool). eqb number n || c) kept ∙ either (eqb number n) (has_number n job) (list_any (has_number n) old) (eq_sides number n ∙ sym (ap (is_some_number n) numbered)) ∙ sym whole
  where
    or_false : (c : Bool) → (c || false) ≡ c
    or_false true = refl
    or_false false = refl

    either : (c d e : Bool) → c ≡ d → (c || e) ≡ (e || d)
    either c d true h = go c where
      go : (c : Bool) → (c || true) ≡ true
      go true = refl
      go false = refl
    either c d false h = or_false c ∙ h

    eq_sides : (a b : ℕ) → eqb a b ≡ eqb b a
    eq_sides a b = go (eqb a b) (eqb b a) refl refl where
      go : (c d : Bool) → eqb a b ≡ c → eqb b a ≡ d → c ≡ d
      go true true p q = refl
      go false false p q = refl
      go true false p q = absurd (true≢false (sym (eq-eqb b a (sym (eqb-true a b p))) ∙ q))
      go false true p q = absurd (true≢false (sym (eq-eqb a b (sym (eqb-true b a q))) ∙ p))

module _ (main : List ℤ) (parts : List (List ℤ)) (number : ℕ) (numbered : whole_number (field main 1) ≡ Some number) (submit : is_below_zero (field main 2) ≡ false) (summary : is_partial (field main 11) ≡ false) where
  -- the lines of an entry, with a summary line of this number, are refused for a bad part where another line is no partial line of the number
  pub made_bad : list_all (is_part number) parts ≡ false → Err faults.BadPart ≡ entry_made main parts
  made_bad bad = sym (ap (entry_numbered main parts) numbered ∙ rw (submit, summary, bad) refl)

  -- the lines of an entry, with a summary line of this number, make the entry where all the others are partial lines of the number
  pub made_ok : list_all (is_part number) parts ≡ true → Ok (record { main = main; parts = parts }) ≡ entry_made main parts
  made_ok good = sym (ap (entry_numbered main parts) numbered ∙ rw (submit, summary, good) refl)

with_behind : (part : Fields) (lines : List Fields) → IsEntry (entry_of_lines lines) → entry_of_lines (lines ++ part ∷ []) ≡ record (entry_of_lines lines) { parts = (entry_of_lines lines).parts ++ values part ∷ [] }
with_behind part [] entry = absurd (omega (arith, entry.eighteen))
with_behind part (line ∷ lines) entry = ap (λ (ps : List (List ℤ)). record { main = values line; parts = ps }) (map-append values lines (part ∷ []))

part_sound : (now : LogEntry) (part : List ℤ) → IsEntry now → field part 1 ≡ field now.main 1 → is_partial (field part 11) ≡ true → IsEntry (record now { parts = now.parts ++ part ∷ [] })
part_sound now part entry same partial = record {
  number = entry.number;
  eighteen = entry.eighteen;
  numbered = entry.numbered;
  number_limit = entry.number_limit;
  submit = entry.submit;
  submit_limit = entry.submit_limit;
  summary = entry.summary;
  parts = all_end (IsPart entry.number) now.parts part entry.parts (record { numbered = same ∙ entry.numbered; partial = partial });
}

-- the lines of an entry with a partial line of its job number behind them are those of an entry
pub more_sound : (part : Fields) (lines : List Fields) (now : LogEntry) → entry_of_lines lines ≡ now → IsEntry (entry_of_lines lines) → field (values part) 1 ≡ field now.main 1 → is_partial (field (values part) 11) ≡ true → IsEntry (entry_of_lines (lines ++ part ∷ []))
more_sound part lines now seen entry same partial = subst IsEntry (sym (with_behind part lines entry)) (part_sound (entry_of_lines lines) (values part) entry (same ∙ ap (λ (e : LogEntry). field e.main 1) (sym seen)) partial)
