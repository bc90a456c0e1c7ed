-- The first fault of a text's lines is that of the line at which the reading ends; so what a reading answers, a text or a fault, is that
-- of the lines, unless memory ran out.
use Rattle.std.proofs.Common.{◌≡◌, ℕ, suc, ◌+◌, ◌-◌, ◌<◌, ◌≤◌, true, leb, List, [], ◌∷◌, ◌++◌, length, get_or, take, set, Option, Some, None, Result, Ok, Err, ℤ, pos, negsuc, refl, sym, ap, subst, ◌∙◌, arith, inl, inr}
use Rattle.std.specs.Prelude.{◌<ℤ◌, IfOk, IfErr}
use Rattle.swf_text.specs.Entry.{HasNumber, LogEntry, field, has_number, is_partial, whole_number}
use Rattle.swf_text.specs.Number.{is_below_zero}
use Rattle.swf_text.specs.Text.{empty, LogText}
use Rattle.std.specs.List.{list_any, slice_get}
use Rattle.std.proofs.lemmas.Bool.{leb-true}
use Rattle.std.proofs.lemmas.Int.{ints}
use Rattle.swf_text.specs.declared.fault.FaultKind.{FaultKind}
use Rattle.swf_text.specs.declared.fault.FaultKind.TheVariants as kinds
use Rattle.swf_text.specs.declared.fault.SwfFault.{SwfFault}
use Rattle.swf_text.specs.declared.line.LineRead.{LineRead}
use Rattle.swf_text.specs.declared.line.LineRead.TheVariants as read
use Rattle.swf_text.specs.Line.{line_of}
use Rattle.swf_text.specs.Fault.{kind_of}
use Rattle.swf_text.specs.Reading.{with_part, with_numbered, with_job, with_read, with_line, with_lines, at_line, Gives, FailsAt}
use Rattle.swf_text.specs.Grammar.{IsSummary, IsJobFault, IsReadFault, IsLineFault, IsTextFrom, IsText, HasReached, FirstFault, IsOkOf, IsFaultOf}
use Rattle.swf_text.proofs.Lines.{IsReadAs-line_of}
use Rattle.swf_text.proofs.Grammars.{chosen, ok_is, done, adds_part, line_adds, number_exact, exact_number, negative_not, none_has, read_text, text_read}

abbrev pub failed : {A : Type 0} → SwfFault → Result A SwfFault
failed x = Err x

-- two equal refusals have the same fault
pub err_is : {A : Type 0} (x y : SwfFault) → failed {A = A} x ≡ failed y → x ≡ y
err_is x y h = cc

negative_is : (v : ℤ) → is_below_zero v ≡ true → v <ℤ pos 0
negative_is (pos m) h = absurd cc
negative_is (negsuc m) h = omega (arith, ints)

abbrev refused : {A : Type 0} → FaultKind → Result A FaultKind
refused kind = Err kind

kind_is : {A : Type 0} (x y : FaultKind) → refused {A = A} x ≡ refused y → y ≡ x
kind_is x y h = cc

part_kind : (t : LogText) (part : List ℤ) (number : ℕ) (o : Option LogEntry) (kind : FaultKind) → with_part t part number o ≡ Err kind → kind ≡ kinds.OrphanPartial
part_kind t part number None kind h = kind_is {A = LogText} kinds.OrphanPartial kind h
part_kind t part number (Some last) kind h = elim (chosen (has_number number last) (Ok (record t { entries = set t.entries (length t.entries - 1) (record last { parts = last.parts ++ part ∷ [] }) })) (Err kinds.OrphanPartial) (Err kind) h) [
  | inl there ↦ absurd (let e = there.1 in cc)
  | inr other ↦ kind_is {A = LogText} kinds.OrphanPartial kind other.1
]

no_last : (t : LogText) (part : List ℤ) (number : ℕ) (kind : FaultKind) → with_job t part ≡ Err kind → HasNumber part number → is_partial (field part 11) ≡ true → (front : List LogEntry) (last : LogEntry) → t.entries ≡ front ++ last ∷ [] → HasNumber last.main number → ⊥
no_last t part number kind h numbered partial front last entries same =
    let u : LogText = record t { entries = front ++ record last { parts = last.parts ++ part ∷ [] } ∷ [] } in
    let adds : with_job t part ≡ Ok u = adds_part t part u (record {
      number = number;
      line = record { numbered = numbered; partial = partial };
      front = front;
      last = last;
      entries = entries;
      same = same;
      value = refl;
    }) in
    absurd cc

job_refused : (t : LogText) (job : List ℤ) (o : Option ℕ) (kind : FaultKind) → whole_number (field job 1) ≡ o → with_job t job ≡ Err kind → with_numbered t job o ≡ Err kind → IsJobFault t job kind
job_refused t job None kind o_is whole h =
    subst (IsJobFault t job) (sym (kind_is {A = LogText} kinds.BadJobNumber kind h)) (λ number numbered. let some = exact_number (field job 1) number numbered in absurd cc)
job_refused t job (Some number) kind o_is whole h =
    let numbered = number_exact (field job 1) number o_is in
    elim (chosen (is_partial (field job 11)) _ _ _ h) [
      | inl part ↦
          subst (IsJobFault t job) (sym (part_kind t job number (slice_get t.entries (length t.entries - 1)) kind part.1))
          (number, record { numbered = numbered; partial = part.0 }, no_last t job number kind whole numbered part.0)
      | inr summary ↦
          let line : IsSummary job number = record { numbered = numbered; summary = summary.0 } in
          elim (chosen (is_below_zero (field job 2)) _ _ _ summary.1) [
            | inl negative ↦ subst (IsJobFault t job) (sym (kind_is {A = LogText} kinds.BadSubmit kind negative.1)) (number, line, negative_is (field job 2) negative.0)
            | inr submit ↦
                elim (chosen (list_any (has_number number) t.entries) _ _ _ submit.1) [
                  | inl there ↦ subst (IsJobFault t job) (sym (kind_is {A = LogText} kinds.DuplicateJob kind there.1)) (number, line, negative_not (field job 2) submit.0, there.0)
                  | inr new ↦
                      elim (chosen (leb 4194304 (length t.entries)) _ _ _ new.1) [
                        | inl full ↦
                            subst (IsJobFault t job) (sym (kind_is {A = LogText} kinds.TooManyJobs kind full.1))
                            (number, line, negative_not (field job 2) submit.0, none_has number t.entries new.0, leb-true 4194304 (length t.entries) full.0)
                        | inr capacity ↦ absurd (let e = capacity.1 in cc)
                      ]
                ]
          ]
    ]

read_refused : (t : LogText) (line : List ℕ) (r : LineRead) (kind : FaultKind) → with_read t line r ≡ Err kind → IsReadFault t r kind
read_refused t line read.Blank kind h = absurd cc
read_refused t line read.Comment kind h = absurd cc
read_refused t line (read.Job job) kind h = job_refused t job.0 (whole_number (field job.0 1)) kind refl h h
read_refused t line (read.Fault fault) kind h = kind_is {A = LogText} (kind_of fault) kind h

line_refused : (t : LogText) (line : List ℕ) (kind : FaultKind) → with_line t line ≡ Err kind → IsLineFault t line kind
unfolding with_line
line_refused t line kind h = record { read = line_of line; is = IsReadAs-line_of line; fault = read_refused t line (line_of line) kind h }

abbrev pub FaultAfter : ℕ → LogText → List (List ℕ) → SwfFault → Type 0
FaultAfter number t lines fault = (k : ℕ) × (u : LogText) × (fault.line ≡ number + k) × (k < length lines) × IsTextFrom t (take k lines) u × (with_line u (get_or lines k []) ≡ Err fault.kind)

fault_next : (number : ℕ) (t : LogText) (line : List ℕ) (lines : List (List ℕ)) (fault : SwfFault) (r : Result LogText FaultKind) → with_line t line ≡ r → ((next : LogText) → with_lines (number + 1) next lines ≡ Err fault → FaultAfter (number + 1) next lines fault) → at_line number r (λ next. with_lines (number + 1) next lines) ≡ Err fault → FaultAfter number t (line ∷ lines) fault
fault_next number t line lines fault (Ok next) is later e =
    let found = later next e in
    (suc found.0, found.1, omega (arith, found.2), omega (arith, found.3), (next, line_adds t line next is, found.4), found.5)
fault_next number t line lines fault (Err kind) is later e =
    let same : record { line = number; kind = kind } ≡ fault = err_is _ fault e in
    (0, t, omega (arith, ap (λ (f : SwfFault). f.line) same), omega arith, refl, is ∙ ap (λ (f : SwfFault). Err f.kind) same)

pub read_fault : (number : ℕ) (t : LogText) (lines : List (List ℕ)) (fault : SwfFault) → with_lines number t lines ≡ Err fault → FaultAfter number t lines fault
unfolding with_lines
read_fault number t [] fault h = absurd cc
read_fault number t (line ∷ lines) fault h = fault_next number t line lines fault (with_line t line) refl (λ next. read_fault (number + 1) next lines fault) h

-- the fault with which the reading of the lines ends is their first
pub first_fault : (lines : List (List ℕ)) (fault : SwfFault) → with_lines 1 empty lines ≡ Err fault → FirstFault lines fault
first_fault lines fault h =
    let found = read_fault 1 empty lines fault h in
    let place : fault.line - 1 ≡ found.0 = omega (arith, found.2) in
    record {
      before = found.1;
      counted = omega (arith, found.2);
      within = omega (arith, found.2, found.3);
      text = subst (λ (k : ℕ). IsTextFrom empty (take k lines) found.1) (sym place) found.4;
      refused = line_refused found.1 (get_or lines (fault.line - 1) []) fault.kind (ap (λ (k : ℕ). with_line found.1 (get_or lines k [])) place ∙ found.5);
    }

-- the lines are the text that a reading gives of them, where it gives one
pub gives_text : (r : Result LogText SwfFault) (lines : List (List ℕ)) → Gives r (with_lines 1 empty lines) → IfOk r (λ text. IsText lines text)
gives_text (Ok text) lines h = read_text 1 empty lines text h
gives_text (Err fault) lines h = tt

gives_only_err : (kind : FaultKind) (line : ℕ) (t : LogText) (reading : Result LogText SwfFault) → reading ≡ done t → FailsAt kind line reading → kind ≡ kinds.Memory
gives_only_err kinds.Memory line t reading is h = refl
gives_only_err kinds.LineTooLong line t reading is h = absurd cc
gives_only_err kinds.NotAscii line t reading is h = absurd cc
gives_only_err kinds.FieldCount line t reading is h = absurd cc
gives_only_err (kinds.BadNumber place) line t reading is h = absurd cc
gives_only_err kinds.BadJobNumber line t reading is h = absurd cc
gives_only_err kinds.BadSubmit line t reading is h = absurd cc
gives_only_err kinds.OrphanPartial line t reading is h = absurd cc
gives_only_err kinds.DuplicateJob line t reading is h = absurd cc
gives_only_err kinds.TooManyJobs line t reading is h = absurd cc

-- where the lines are a text, a reading gives that text, unless memory ran out
pub gives_only : (r : Result LogText SwfFault) (lines : List (List ℕ)) → Gives r (with_lines 1 empty lines) → (t : LogText) → IsText lines t → IsOkOf r t
gives_only (Ok text) lines h t is = ok_is {E = SwfFault} t text (sym (text_read 1 empty lines t is) ∙ h)
gives_only (Err fault) lines h t is = gives_only_err fault.kind fault.line t (with_lines 1 empty lines) (text_read 1 empty lines t is) h

fault_known : (kind : FaultKind) (line : ℕ) (reading : Result LogText SwfFault) → FailsAt kind line reading → (kind ≡ kinds.Memory → ⊥) → reading ≡ Err (record { line = line; kind = kind })
fault_known kinds.Memory line reading h known = absurd (known refl)
fault_known kinds.LineTooLong line reading h known = h
fault_known kinds.NotAscii line reading h known = h
fault_known kinds.FieldCount line reading h known = h
fault_known (kinds.BadNumber place) line reading h known = h
fault_known kinds.BadJobNumber line reading h known = h
fault_known kinds.BadSubmit line reading h known = h
fault_known kinds.OrphanPartial line reading h known = h
fault_known kinds.DuplicateJob line reading h known = h
fault_known kinds.TooManyJobs line reading h known = h

-- the fault that a reading gives, where it gives one, is the first of the lines, unless memory ran out
pub gives_fault : (r : Result LogText SwfFault) (lines : List (List ℕ)) → Gives r (with_lines 1 empty lines) → IfErr r (λ fault. IsFaultOf lines fault)
gives_fault (Ok text) lines h = tt
gives_fault (Err fault) lines h = λ known. first_fault lines fault (fault_known fault.kind fault.line (with_lines 1 empty lines) h known)

-- a line is reached where the reading of the lines before it gives a text
pub reached : (lines : List (List ℕ)) (line : ℕ) (t : LogText) → 0 < line → line ≤ length lines → with_lines 1 empty (take (line - 1) lines) ≡ Ok t → HasReached lines line
reached lines line t counted within h = record { before = t; counted = counted; within = within; text = read_text 1 empty (take (line - 1) lines) t h }
