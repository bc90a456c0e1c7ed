-- The tests of a line, one after another, find what the line is, and a line is one thing alone.
use Rattle.std.proofs.Common.{◌≡◌, ℕ, zero, suc, ◌+◌, ◌-◌, ◌<◌, ◌≤◌, Bool, true, false, eqb, ltb, ◌&&◌, List, [], ◌∷◌, length, get_or, take, drop, Option, Some, None, Result, Ok, Err, ℤ, refl, sym, ap, subst, ◌∙◌, arith, inl, inr}
use Rattle.std.specs.Prelude.{slice_get}
use Rattle.std.specs.List.{list_all, list_any, prefix_len}
use Rattle.std.proofs.lemmas.Bool.{cases_Bool, cases_lt, eqb-true, eq-eqb, ne_eqb, eqb-false, lt-ltb, le-ltb}
use Rattle.swf_text.specs.Number.{Spells, number_of}
use Rattle.swf_text.specs.declared.line.LineRead.{LineRead}
use Rattle.swf_text.specs.declared.line.LineRead.TheVariants as read
use Rattle.swf_text.specs.declared.line.LineFault.TheVariants as faults
use Rattle.swf_text.specs.Line.{is_blank, is_high, without_returns, from_first, fields, value_then, values_from, job_of_values, job_line, line_by_front, line_of, AreSpelled, IsFirstBad, IsForJob, IsAsciiForJob, IsReadAs}
use Rattle.swf_text.proofs.Numbers.{Spells-number_of, number_of-Spells}

spells_none : (word : List ℕ) → number_of word ≡ None → (v : ℤ) → Spells word v → ⊥
spells_none word none v spells = let some = number_of-Spells word v spells in absurd cc

none_spelled : (word : List ℕ) (o : Option ℤ) → number_of word ≡ o → ((v : ℤ) → Spells word v → ⊥) → o ≡ None
none_spelled word None is bad = refl
none_spelled word (Some v) is bad = absurd (bad v (Spells-number_of word v is))

abbrev more : ℕ → Option ℤ → Result (List ℤ) ℕ → Result (List ℤ) ℕ
more place o r = value_then place o r

ok_tail : (place : ℕ) (o : Option ℤ) (r : Result (List ℤ) ℕ) (vs : List ℤ) → more place o r ≡ Ok vs → (v : ℤ) × (rest : List ℤ) × (o ≡ Some v) × (r ≡ Ok rest) × (vs ≡ v ∷ rest)
ok_tail place None r vs h = absurd cc
ok_tail place (Some v) (Ok rest) vs h = (v, rest, refl, refl, cc)
ok_tail place (Some v) (Err other) vs h = absurd cc

AreSpelled-values_from : (place : ℕ) (words : List (List ℕ)) (vs : List ℤ) → values_from place words ≡ Ok vs → AreSpelled words vs
unfolding values_from
AreSpelled-values_from place [] vs h = let none : vs ≡ [] = cc in subst (AreSpelled []) (sym none) tt
AreSpelled-values_from place (word ∷ words) vs h =
    let found = ok_tail place (number_of word) (values_from (place + 1) words) vs h in
    subst (AreSpelled (word ∷ words)) (sym found.4) (Spells-number_of word found.0 found.2, AreSpelled-values_from (place + 1) words found.1 found.3)

values_from-AreSpelled : (place : ℕ) (words : List (List ℕ)) (vs : List ℤ) → AreSpelled words vs → values_from place words ≡ Ok vs
unfolding values_from
values_from-AreSpelled place [] [] h = refl
values_from-AreSpelled place [] (v ∷ vs) h = absurd h
values_from-AreSpelled place (word ∷ words) [] h = absurd h
values_from-AreSpelled place (word ∷ words) (v ∷ vs) h = rw (number_of-Spells word v h.0, values_from-AreSpelled (place + 1) words vs h.1) refl

record BadAt (start : ℕ) (words : List (List ℕ)) (place : ℕ) : Type 0 where
  count : ℕ
  values : List ℤ
  is : place ≡ start + count
  within : count < length words
  before : AreSpelled (take count words) values
  bad : (v : ℤ) → Spells (get_or words count []) v → ⊥

bad_next : (place : ℕ) (word : List ℕ) (words : List (List ℕ)) (p : ℕ) (o : Option ℤ) (r : Result (List ℤ) ℕ) → number_of word ≡ o → values_from (place + 1) words ≡ r → more place o r ≡ Err p → ((q : ℕ) → values_from (place + 1) words ≡ Err q → BadAt (place + 1) words q) → BadAt place (word ∷ words) p
bad_next place word words p None r o_is r_is h later = record {
  count = 0;
  values = [];
  is = let here : place ≡ p = cc in omega (arith, here);
  within = omega arith;
  before = tt;
  bad = spells_none word o_is;
}
bad_next place word words p (Some v) (Ok rest) o_is r_is h later = absurd cc
bad_next place word words p (Some v) (Err q) o_is r_is h later =
    let found = later q r_is in
    let same : q ≡ p = cc in
    record {
      count = suc found.count;
      values = v ∷ found.values;
      is = omega (arith, found.is, same);
      within = omega (arith, found.within);
      before = (Spells-number_of word v o_is, found.before);
      bad = found.bad;
    }

bad_from : (place : ℕ) (words : List (List ℕ)) (p : ℕ) → values_from place words ≡ Err p → BadAt place words p
unfolding values_from
bad_from place [] p h = absurd cc
bad_from place (word ∷ words) p h = bad_next place word words p (number_of word) (values_from (place + 1) words) refl refl h (λ q. bad_from (place + 1) words q)

from_bad : (place count : ℕ) (words : List (List ℕ)) (values : List ℤ) → count < length words → AreSpelled (take count words) values → ((v : ℤ) → Spells (get_or words count []) v → ⊥) → values_from place words ≡ Err (place + count)
unfolding values_from
from_bad place count [] values within before bad = absurd (omega arith)
from_bad place zero (word ∷ words) values within before bad =
    let none : number_of word ≡ None = none_spelled word (number_of word) refl bad in
    let here : place ≡ place + 0 = omega arith in
    rw none (ap Err here)
from_bad place (suc count) (word ∷ words) [] within before bad = absurd before
from_bad place (suc count) (word ∷ words) (v ∷ vs) within before bad =
    let rest = from_bad (place + 1) count words vs (omega arith) before.1 bad in
    let next : place + 1 + count ≡ place + suc count = omega arith in
    rw (number_of-Spells word v before.0, rest) (ap Err next)

first_bad : (words : List (List ℕ)) (p : ℕ) → values_from 1 words ≡ Err p → IsFirstBad words p
first_bad words p h =
    let found = bad_from 1 words p h in
    let place : p - 1 ≡ found.count = omega (arith, found.is) in
    record {
      values = found.values;
      counted = omega (arith, found.is);
      within = omega (arith, found.is, found.within);
      before = subst (λ (k : ℕ). AreSpelled (take k words) found.values) (sym place) found.before;
      bad = subst (λ (k : ℕ). (v : ℤ) → Spells (get_or words k []) v → ⊥) (sym place) found.bad;
    }

values_from-IsFirstBad : (words : List (List ℕ)) (p : ℕ) → IsFirstBad words p → values_from 1 words ≡ Err p
values_from-IsFirstBad words p h =
    let place : 1 + (p - 1) ≡ p = omega (arith, h.counted) in
    from_bad 1 (p - 1) words h.values (omega (arith, h.counted, h.within)) h.before h.bad ∙ ap Err place

all_blank : (bs : List ℕ) → from_first bs ≡ [] → list_all is_blank bs ≡ true
all_blank [] h = refl
all_blank (b ∷ bs) h = elim (cases_Bool (is_blank b)) [
  | inl blank ↦
      let count : prefix_len is_blank (b ∷ bs) ≡ suc (prefix_len is_blank bs) = rw blank (omega arith) in
      rw blank (all_blank bs (sym (ap (λ (k : ℕ). drop k (b ∷ bs)) count) ∙ h))
  | inr other ↦
      let count : prefix_len is_blank (b ∷ bs) ≡ 0 = rw other refl in
      let whole : b ∷ bs ≡ [] = sym (ap (λ (k : ℕ). drop k (b ∷ bs)) count) ∙ h in
      absurd cc
]

blank_all : (bs : List ℕ) → list_all is_blank bs ≡ true → from_first bs ≡ []
blank_all [] h = refl
blank_all (b ∷ bs) h = elim (cases_Bool (is_blank b)) [
  | inl blank ↦
      let count : prefix_len is_blank (b ∷ bs) ≡ suc (prefix_len is_blank bs) = rw blank (omega arith) in
      let rest : list_all is_blank bs ≡ true = sym (ap (λ (c : Bool). c && list_all is_blank bs) blank) ∙ h in
      ap (λ (k : ℕ). drop k (b ∷ bs)) count ∙ blank_all bs rest
  | inr other ↦ let none : false ≡ true = sym (ap (λ (c : Bool). c && list_all is_blank bs) other) ∙ h in absurd cc
]

of_values : (line : List ℕ) (r : Result (List ℤ) ℕ) → IsAsciiForJob line → length (fields (without_returns line)) ≡ 18 → values_from 1 (fields (without_returns line)) ≡ r → IsReadAs line (job_of_values r)
of_values line (Ok vs) start count is = record { for_job = start; eighteen = count; spelled = AreSpelled-values_from 1 (fields (without_returns line)) vs is }
of_values line (Err place) start count is = (start, count, first_bad (fields (without_returns line)) place is)

of_job : (line : List ℕ) → IsForJob line → IsReadAs line (job_line (without_returns line))
of_job line start = elim (cases_Bool (list_any is_high (without_returns line))) [
  | inl high ↦ let is : job_line (without_returns line) ≡ read.Fault faults.NotAscii = rw high refl in subst (IsReadAs line) (sym is) (start, high)
  | inr low ↦
      let ascii : IsAsciiForJob line = record { for_job = start; ascii = low } in
      elim (cases_Bool (eqb (length (fields (without_returns line))) 18)) [
        | inl count ↦
            let is : job_line (without_returns line) ≡ job_of_values (values_from 1 (fields (without_returns line))) = rw (low, count) refl in
            subst (IsReadAs line) (sym is) (of_values line (values_from 1 (fields (without_returns line))) ascii (eqb-true _ 18 count) refl)
        | inr other ↦
            let is : job_line (without_returns line) ≡ read.Fault faults.FieldCount = rw (low, other) refl in
            subst (IsReadAs line) (sym is) (ascii, eqb-false _ 18 other)
      ]
]

of_front : (line front : List ℕ) → length line ≤ 65536 → from_first (without_returns line) ≡ front → IsReadAs line (line_by_front (without_returns line) front)
of_front line [] short is = (short, all_blank (without_returns line) is)
of_front line (b ∷ bs) short is =
    let begins : slice_get (from_first (without_returns line)) 0 ≡ Some b = ap (λ (l : List ℕ). slice_get l 0) is in
    elim (cases_Bool (eqb b 59)) [
      | inl mark ↦
          let comment : line_by_front (without_returns line) (b ∷ bs) ≡ read.Comment = rw mark refl in
          subst (IsReadAs line) (sym comment) (short, begins ∙ ap Some (eqb-true b 59 mark))
      | inr other ↦
          let job : line_by_front (without_returns line) (b ∷ bs) ≡ job_line (without_returns line) = rw other refl in
          subst (IsReadAs line) (sym job) (of_job line (record { short = short; first = b; begins = begins; other = eqb-false b 59 other }))
    ]

-- what the tests of a line find is what it is
pub IsReadAs-line_of : (line : List ℕ) → IsReadAs line (line_of line)
IsReadAs-line_of line = elim (cases_lt 65536 (length line)) [
  | inl long ↦
      let test : ltb 65536 (length line) ≡ true = lt-ltb 65536 (length line) long in
      let is : line_of line ≡ read.Fault faults.LineTooLong = rw test refl in
      subst (IsReadAs line) (sym is) long
  | inr short ↦
      let test : ltb 65536 (length line) ≡ false = le-ltb 65536 (length line) short in
      let is : line_of line ≡ line_by_front (without_returns line) (from_first (without_returns line)) = rw test refl in
      subst (IsReadAs line) (sym is) (of_front line (from_first (without_returns line)) short refl)
]

-- a line within the limit is told without the carriage returns at its end, by what follows the blanks that it begins with
pub short_line : (line : List ℕ) → length line ≤ 65536 → line_of line ≡ line_by_front (without_returns line) (from_first (without_returns line))
short_line line short = let test : ltb 65536 (length line) ≡ false = le-ltb 65536 (length line) short in rw test refl

front_is : (line front : List ℕ) (b : ℕ) → slice_get front 0 ≡ Some b → eqb b 59 ≡ false → line_by_front line front ≡ job_line line
front_is line [] b begins other = absurd cc
front_is line (x ∷ xs) b begins other = let same : x ≡ b = cc in let test : eqb x 59 ≡ false = ap (λ (k : ℕ). eqb k 59) same ∙ other in rw test refl

front_comment : (line front : List ℕ) → slice_get front 0 ≡ Some 59 → line_by_front line front ≡ read.Comment
front_comment line [] begins = absurd cc
front_comment line (x ∷ xs) begins = let same : x ≡ 59 = cc in let test : eqb x 59 ≡ true = ap (λ (k : ℕ). eqb k 59) same in rw test refl

for_job : (line : List ℕ) → IsForJob line → line_of line ≡ job_line (without_returns line)
for_job line h = short_line line h.short ∙ front_is (without_returns line) (from_first (without_returns line)) h.first h.begins (ne_eqb h.first 59 h.other)

for_values : (line : List ℕ) → IsAsciiForJob line → length (fields (without_returns line)) ≡ 18 → line_of line ≡ job_of_values (values_from 1 (fields (without_returns line)))
for_values line h count =
    let low = h.ascii in
    let test : eqb (length (fields (without_returns line))) 18 ≡ true = eq-eqb (length (fields (without_returns line))) 18 count in
    for_job line h.for_job ∙ rw (low, test) refl

-- the tests find what a line is, and so it is nothing else
pub line_of-IsReadAs : (line : List ℕ) (r : LineRead) → IsReadAs line r → line_of line ≡ r
line_of-IsReadAs line read.Blank h = short_line line h.0 ∙ ap (line_by_front (without_returns line)) (blank_all (without_returns line) h.1)
line_of-IsReadAs line read.Comment h = short_line line h.0 ∙ front_comment (without_returns line) (from_first (without_returns line)) h.1
line_of-IsReadAs line (read.Job job) h = for_values line h.for_job h.eighteen ∙ ap job_of_values (values_from-AreSpelled 1 (fields (without_returns line)) job.0 h.spelled)
line_of-IsReadAs line (read.Fault faults.LineTooLong) h = let test : ltb 65536 (length line) ≡ true = lt-ltb 65536 (length line) h in rw test refl
line_of-IsReadAs line (read.Fault faults.NotAscii) h = let high = h.1 in for_job line h.0 ∙ rw high refl
line_of-IsReadAs line (read.Fault faults.FieldCount) h =
    let low = h.0.ascii in
    let test : eqb (length (fields (without_returns line))) 18 ≡ false = ne_eqb (length (fields (without_returns line))) 18 h.1 in
    for_job line h.0.for_job ∙ rw (low, test) refl
line_of-IsReadAs line (read.Fault (faults.BadNumber place)) h = for_values line h.0 h.1 ∙ ap job_of_values (values_from-IsFirstBad (fields (without_returns line)) place h.2)
