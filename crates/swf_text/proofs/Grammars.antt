-- The reading from left to right keeps to the grammar, and what the grammar says of lines is read so.
use Rattle.std.proofs.Common.{◌≡◌, ℕ, suc, ◌+◌, ◌-◌, ◌*◌, ◌/◌, ◌%◌, ◌<◌, ◌≤◌, Bool, true, false, cond, eqb, leb, List, [], ◌∷◌, ◌++◌, length, get_or, take, drop, set, Option, Some, None, Result, Ok, Err, ℤ, pos, negsuc, refl, sym, ap, ◌∙◌, arith, inl, inr, ◌⊎◌}
use Rattle.std.specs.Prelude.{◌≤ℤ◌}
use Rattle.swf_text.specs.Entry.{HasNumber, LogEntry, field, has_number, is_partial, is_some_number, whole_number}
use Rattle.swf_text.specs.Number.{is_below_zero}
use Rattle.swf_text.specs.Text.{LogText}
use Rattle.std.specs.List.{AllByRecursion, list_any, slice_get}
use Rattle.std.proofs.lemmas.Bool.{cases_Bool, eqb-true, eq-eqb, leb-false, lt-leb, true≢false}
use Rattle.std.proofs.Common.{◌||◌, drop-cons}
use Rattle.std.proofs.Math.Seq.{set-append_seam, get_or-append_seam}
use Rattle.std.proofs.Math.ListN.{drop_of_length-le}
use Rattle.std.proofs.lemmas.Int.{ints}
use Rattle.std.proofs.lemmas.List.{take-append-drop, length-append}
use Rattle.std.proofs.lemmas.Option.{slice_get_within, get_or_from_slice_get, slice_get-get_or}
use Rattle.swf_text.specs.declared.fault.FaultKind.{FaultKind}
use Rattle.swf_text.specs.declared.fault.FaultKind.TheVariants as kinds
use Rattle.swf_text.specs.declared.line.LineRead.{LineRead}
use Rattle.swf_text.specs.declared.line.LineRead.TheVariants as read
use Rattle.swf_text.specs.Line.{line_of}
use Rattle.swf_text.specs.Reading.{with_part, with_numbered, with_job, with_read, with_line, with_lines, at_line}
use Rattle.swf_text.specs.Grammar.{AddsJob, AddsPart, AddsRead, AddsLine, IsTextFrom}
use Rattle.swf_text.proofs.Lines.{IsReadAs-line_of, line_of-IsReadAs}

-- an answer of this value, without a fault
abbrev pub done : {A E : Type 0} → A → Result A E
done x = Ok x

-- the same answer without a fault has the same value
pub ok_is : {A E : Type 0} (x y : A) → done {E = E} x ≡ done y → y ≡ x
ok_is x y h = cc

-- where a choice comes to a value, its test holds and the first side is that value, or it fails and the second side is
pub chosen : {A : Type 0} (b : Bool) (x y z : A) → cond b x y ≡ z → ((b ≡ true) × (x ≡ z)) ⊎ ((b ≡ false) × (y ≡ z))
chosen true x y z h = inl (refl, h)
chosen false x y z h = inr (refl, h)

or_first : (a b : Bool) → a ≡ true → (a || b) ≡ true
or_first a b h = rw h refl

or_second : (a b : Bool) → a ≡ false → (a || b) ≡ false → b ≡ false
or_second a b p h = sym (rw p refl) ∙ h

pub set_last : (front : List LogEntry) (last new : LogEntry) → set (front ++ last ∷ []) (length (front ++ last ∷ []) - 1) new ≡ front ++ new ∷ []
set_last front last new =
    let place : length (front ++ last ∷ []) - 1 ≡ length front = omega (arith, length-append front (last ∷ [])) in
    ap (λ (k : ℕ). set (front ++ last ∷ []) k new) place ∙ set-append_seam front last [] new

number_whole : (m n : ℕ) (b : Bool) → eqb (m % 1000000) 0 ≡ b → cond b (Some (m / 1000000)) None ≡ Some n → m ≡ 1000000 * n
number_whole m n true is h = let same : m / 1000000 ≡ n = cc in omega (arith, eqb-true (m % 1000000) 0 is)
number_whole m n false is h = absurd cc

-- a value whose whole number is n is n in millionths
pub number_exact : (v : ℤ) (n : ℕ) → whole_number v ≡ Some n → v ≡ pos (1000000 * n)
number_exact (pos m) n h = ap pos (number_whole m n (eqb (m % 1000000) 0) refl h)
number_exact (negsuc m) n h = absurd cc

-- a value that is n in millionths has the whole number n
pub exact_number : (v : ℤ) (n : ℕ) → v ≡ pos (1000000 * n) → whole_number v ≡ Some n
exact_number v n h =
    let rest : eqb (1000000 * n % 1000000) 0 ≡ true = eq-eqb (1000000 * n % 1000000) 0 (omega arith) in
    let whole : 1000000 * n / 1000000 ≡ n = omega arith in
    ap whole_number h ∙ rw (rest, whole) refl

-- a value that the test finds not below 0 is at least 0
pub negative_not : (v : ℤ) → is_below_zero v ≡ false → pos 0 ≤ℤ v
negative_not (pos m) h = omega (arith, ints)
negative_not (negsuc m) h = absurd cc

-- the test finds a value of at least 0 not below 0
pub not_negative : (v : ℤ) → pos 0 ≤ℤ v → is_below_zero v ≡ false
not_negative (pos m) h = refl
not_negative (negsuc m) h = absurd (omega (arith, ints))

-- what passes the test for a number is that number
pub has_exact : (n : ℕ) (o : Option ℕ) → is_some_number n o ≡ true → o ≡ Some n
has_exact n None h = absurd cc
has_exact n (Some m) h = ap Some (sym (eqb-true n m h))

-- an entry that has a job number passes the test for it
pub exact_has : (n : ℕ) (job : LogEntry) → HasNumber job.main n → has_number n job ≡ true
exact_has n job h = ap (is_some_number n) (exact_number (field job.main 1) n h) ∙ eq-eqb n n refl

-- where no entry passes the test for a job number, none has it
pub none_has : (n : ℕ) (entries : List LogEntry) → list_any (has_number n) entries ≡ false → AllByRecursion (λ (other : LogEntry). HasNumber other.main n → ⊥) entries
none_has n [] h = tt
none_has n (job ∷ entries) h = elim (cases_Bool (has_number n job)) [
  | inl has ↦ absurd (true≢false (sym (or_first (has_number n job) (list_any (has_number n) entries) has) ∙ h))
  | inr hasn't ↦ (λ same. true≢false (sym (exact_has n job same) ∙ hasn't), none_has n entries (or_second (has_number n job) (list_any (has_number n) entries) hasn't h))
]

-- where no entry has a job number, none passes the test for it
pub has_none : (n : ℕ) (entries : List LogEntry) → AllByRecursion (λ (other : LogEntry). HasNumber other.main n → ⊥) entries → list_any (has_number n) entries ≡ false
has_none n [] h = refl
has_none n (job ∷ entries) h = elim (cases_Bool (has_number n job)) [
  | inl has ↦ absurd (h.0 (number_exact (field job.main 1) n (has_exact n (whole_number (field job.main 1)) has)))
  | inr hasn't ↦ rw hasn't (has_none n entries h.1)
]

-- entries with a last one are those before it and then that one
pub last_apart : (entries : List LogEntry) (last : LogEntry) → slice_get entries (length entries - 1) ≡ Some last → (front : List LogEntry) × (entries ≡ front ++ last ∷ [])
last_apart entries last h =
    let k = length entries - 1 in
    let within : k < length entries = slice_get_within entries k last h in
    let there : get_or entries k last ≡ last = get_or_from_slice_get entries k last last h in
    let none : drop (suc k) entries ≡ [] = let past : length entries ≤ suc k = omega arith in drop_of_length-le entries past in
    (take k entries, sym (take-append-drop k entries) ∙ ap (λ (rest : List LogEntry). take k entries ++ rest) (drop-cons entries k last within ∙ rw (there, none) refl))

part_adds : (t : LogText) (part : List ℤ) (number : ℕ) (u : LogText) (o : Option LogEntry) → slice_get t.entries (length t.entries - 1) ≡ o → HasNumber part number → is_partial (field part 11) ≡ true → with_part t part number o ≡ Ok u → AddsPart t part u
part_adds t part number u None o_is numbered partial h = absurd cc
part_adds t part number u (Some last) o_is numbered partial h = elim (chosen (has_number number last) (Ok (record t { entries = set t.entries (length t.entries - 1) (record last { parts = last.parts ++ part ∷ [] }) })) (Err kinds.OrphanPartial) (Ok u) h) [
  | inl there ↦
      let apart = last_apart t.entries last o_is in
      let new : LogEntry = record last { parts = last.parts ++ part ∷ [] } in
      record {
        number = number;
        line = record { numbered = numbered; partial = partial };
        front = apart.0;
        last = last;
        entries = apart.1;
        same = number_exact (field last.main 1) number (has_exact number (whole_number (field last.main 1)) there.0);
        value = ok_is _ u there.1 ∙ ap (λ (js : List LogEntry). record t { entries = js }) (ap (λ (js : List LogEntry). set js (length js - 1) new) apart.1 ∙ set_last apart.0 last new);
      }
  | inr other ↦ absurd (let e = other.1 in cc)
]

-- a partial line that joins the last entry by the grammar is read so
pub adds_part : (t : LogText) (part : List ℤ) (u : LogText) → AddsPart t part u → with_job t part ≡ Ok u
adds_part t part u h =
    let known = exact_number (field part 1) h.number h.line.numbered in
    let last = h.last in
    let new : LogEntry = record last { parts = last.parts ++ part ∷ [] } in
    let place : length (h.front ++ last ∷ []) - 1 ≡ length h.front = omega (arith, length-append h.front (last ∷ [])) in
    let within : length h.front < length (h.front ++ last ∷ []) = omega (arith, length-append h.front (last ∷ [])) in
    let there : slice_get t.entries (length t.entries - 1) ≡ Some last =
    ap (λ (js : List LogEntry). slice_get js (length js - 1)) h.entries
    ∙ ap (slice_get (h.front ++ last ∷ [])) place
    ∙ slice_get-get_or (h.front ++ last ∷ []) (length h.front) last within
    ∙ ap Some (get_or-append_seam h.front last [] last) in
    let value : record t { entries = set t.entries (length t.entries - 1) new } ≡ u =
    ap (λ (js : List LogEntry). record t { entries = js }) (ap (λ (js : List LogEntry). set js (length js - 1) new) h.entries ∙ set_last h.front last new) ∙ sym h.value in
    ap (with_numbered t part) known ∙ rw (h.line.partial, there, exact_has h.number last h.same) (ap Ok value)

job_adds : (t : LogText) (job : List ℤ) (o : Option ℕ) (u : LogText) → whole_number (field job 1) ≡ o → with_numbered t job o ≡ Ok u → AddsJob t job u ⊎ AddsPart t job u
job_adds t job None u o_is h = absurd cc
job_adds t job (Some number) u o_is h =
    let numbered = number_exact (field job 1) number o_is in
    elim (chosen (is_partial (field job 11)) _ _ _ h) [
      | inl part ↦ inr (part_adds t job number u (slice_get t.entries (length t.entries - 1)) refl numbered part.0 part.1)
      | inr summary ↦
          elim (chosen (is_below_zero (field job 2)) _ _ _ summary.1) [
            | inl negative ↦ absurd (let e = negative.1 in cc)
            | inr submit ↦
                elim (chosen (list_any (has_number number) t.entries) _ _ _ submit.1) [
                  | inl there ↦ absurd (let e = there.1 in cc)
                  | inr new ↦
                      elim (chosen (leb 4194304 (length t.entries)) _ _ _ new.1) [
                        | inl full ↦ absurd (let e = full.1 in cc)
                        | inr capacity ↦ inl (record {
                          number = number;
                          line = record { numbered = numbered; summary = summary.0 };
                          submit = negative_not (field job 2) submit.0;
                          new = none_has number t.entries new.0;
                          capacity = leb-false 4194304 (length t.entries) capacity.0;
                          value = ok_is _ u capacity.1;
                        })
                      ]
                ]
          ]
    ]

adds_job : (t : LogText) (job : List ℤ) (u : LogText) → AddsJob t job u → with_job t job ≡ Ok u
adds_job t job u h =
    let known = exact_number (field job 1) h.number h.line.numbered in
    let submit = not_negative (field job 2) h.submit in
    let new = has_none h.number t.entries h.new in
    let capacity : leb 4194304 (length t.entries) ≡ false = lt-leb 4194304 (length t.entries) h.capacity in
    ap (with_numbered t job) known ∙ rw (h.line.summary, submit, new, capacity) (ap Ok (sym h.value))

read_adds : (t : LogText) (line : List ℕ) (r : LineRead) (u : LogText) → with_read t line r ≡ Ok u → AddsRead t line r u
read_adds t line read.Blank u h = ok_is t u h
read_adds t line read.Comment u h = ok_is _ u h
read_adds t line (read.Job job) u h = job_adds t job.0 (whole_number (field job.0 1)) u refl h
read_adds t line (read.Fault fault) u h = absurd cc

adds_read : (t : LogText) (line : List ℕ) (r : LineRead) (u : LogText) → AddsRead t line r u → with_read t line r ≡ Ok u
adds_read t line read.Blank u h = ap Ok (sym h)
adds_read t line read.Comment u h = ap Ok (sym h)
adds_read t line (read.Job job) u (inl new) = adds_job t job.0 u new
adds_read t line (read.Job job) u (inr part) = adds_part t job.0 u part
adds_read t line (read.Fault fault) u h = absurd h

-- where a line is read and takes one text to another, it does so by the grammar
pub line_adds : (t : LogText) (line : List ℕ) (u : LogText) → with_line t line ≡ Ok u → AddsLine t line u
unfolding with_line
line_adds t line u h = record { read = line_of line; is = IsReadAs-line_of line; adds = read_adds t line (line_of line) u h }

-- a line that takes one text to another by the grammar is read so
pub adds_line : (t : LogText) (line : List ℕ) (u : LogText) → AddsLine t line u → with_line t line ≡ Ok u
unfolding with_line
adds_line t line u h = ap (with_read t line) (line_of-IsReadAs line h.read h.is) ∙ adds_read t line h.read u h.adds

read_next : (number : ℕ) (t : LogText) (line : List ℕ) (lines : List (List ℕ)) (u : LogText) (r : Result LogText FaultKind) → with_line t line ≡ r → ((next : LogText) → with_lines (number + 1) next lines ≡ Ok u → IsTextFrom next lines u) → at_line number r (λ next. with_lines (number + 1) next lines) ≡ Ok u → IsTextFrom t (line ∷ lines) u
read_next number t line lines u (Ok next) is later e = (next, line_adds t line next is, later next e)
read_next number t line lines u (Err kind) is later e = absurd cc

-- where lines are read and take one text to another, they do so by the grammar
pub read_text : (number : ℕ) (t : LogText) (lines : List (List ℕ)) (u : LogText) → with_lines number t lines ≡ Ok u → IsTextFrom t lines u
unfolding with_lines
read_text number t [] u h = ok_is t u h
read_text number t (line ∷ lines) u h = read_next number t line lines u (with_line t line) refl (λ next. read_text (number + 1) next lines u) h

-- lines that take one text to another by the grammar are read so, whatever number the first has
pub text_read : (number : ℕ) (t : LogText) (lines : List (List ℕ)) (u : LogText) → IsTextFrom t lines u → with_lines number t lines ≡ Ok u
unfolding with_lines
text_read number t [] u h = ap Ok (sym h)
text_read number t (line ∷ lines) u h =
    ap (λ (r : Result LogText FaultKind). at_line number r (λ next. with_lines (number + 1) next lines)) (adds_line t line h.0 h.1) ∙ text_read (number + 1) h.0 lines u h.2
