-- Behind the first fault of a log nothing is a text, and before it everything is: the line that has the fault is refused with it.
use Rattle.std.proofs.Common.{◌≡◌, ℕ, zero, suc, ◌+◌, ◌-◌, ◌*◌, ◌<◌, ◌≤◌, true, leb, List, [], ◌∷◌, ◌++◌, length, get_or, take, drop, take-take, Option, Some, None, Result, Ok, Err, ℤ, pos, negsuc, refl, sym, ap, subst, ◌∙◌, arith, inl, inr, ◌⊎◌, drop-cons}
use Rattle.std.specs.Prelude.{◌<ℤ◌}
use Rattle.std.specs.List.{slice_get}
use Rattle.std.proofs.lemmas.Bool.{cases_Bool, le-leb}
use Rattle.std.proofs.lemmas.Int.{ints}
use Rattle.std.proofs.lemmas.List.{take-append-drop, take_more, length-take-le}
use Rattle.swf_text.specs.declared.fault.FaultKind.{FaultKind}
use Rattle.swf_text.specs.declared.fault.FaultKind.TheVariants as kinds
use Rattle.swf_text.specs.declared.fault.SwfFault.{SwfFault}
use Rattle.swf_text.specs.declared.line.LineRead.{LineRead}
use Rattle.swf_text.specs.declared.line.LineRead.TheVariants as read
use Rattle.swf_text.specs.Entry.{HasNumber, LogEntry, field, has_number, whole_number}
use Rattle.swf_text.specs.Number.{is_below_zero}
use Rattle.swf_text.specs.Text.{LogText, empty}
use Rattle.swf_text.specs.Reading.{with_part, with_numbered, with_job, with_read, with_line, with_lines, at_line}
use Rattle.swf_text.specs.Grammar.{IsJobFault, IsReadFault, IsLineFault, IsTextFrom, IsText, FirstFault, IsLeastNoText}
use Rattle.swf_text.proofs.Lines.{line_of-IsReadAs}
use Rattle.swf_text.proofs.Grammars.{number_exact, exact_number, has_exact, has_none, not_negative, last_apart, adds_line, read_text, text_read}
use Rattle.swf_text.proofs.Outcomes.{err_is, first_fault}

no_number : (v : ℤ) (o : Option ℕ) → whole_number v ≡ o → ((n : ℕ) → v ≡ pos (1000000 * n) → ⊥) → o ≡ None
no_number v None is none = refl
no_number v (Some n) is none = absurd (none n (number_exact v n is))

below_zero : (v : ℤ) → v <ℤ pos 0 → is_below_zero v ≡ true
below_zero (pos m) h = absurd (omega (arith, ints))
below_zero (negsuc m) h = refl

orphan : (t : LogText) (part : List ℤ) (number : ℕ) (o : Option LogEntry) → slice_get t.entries (length t.entries - 1) ≡ o → ((front : List LogEntry) (last : LogEntry) → t.entries ≡ front ++ last ∷ [] → HasNumber last.main number → ⊥) → with_part t part number o ≡ Err kinds.OrphanPartial
orphan t part number None is none = refl
orphan t part number (Some last) is none = elim (cases_Bool (has_number number last)) [
  | inl has ↦
      let apart = last_apart t.entries last is in
      absurd (none apart.0 last apart.1 (number_exact (field last.main 1) number (has_exact number (whole_number (field last.main 1)) has)))
  | inr hasn't ↦ rw hasn't refl
]

job_fault : (t : LogText) (job : List ℤ) (kind : FaultKind) → IsJobFault t job kind → with_job t job ≡ Err kind
job_fault t job kinds.BadJobNumber h = ap (with_numbered t job) (no_number (field job 1) (whole_number (field job 1)) refl h)
job_fault t job kinds.OrphanPartial h =
    ap (with_numbered t job) (exact_number (field job 1) h.0 h.1.numbered) ∙ rw h.1.partial (orphan t job h.0 (slice_get t.entries (length t.entries - 1)) refl h.2)
job_fault t job kinds.BadSubmit h =
    ap (with_numbered t job) (exact_number (field job 1) h.0 h.1.numbered) ∙ rw (h.1.summary, below_zero (field job 2) h.2) refl
job_fault t job kinds.DuplicateJob h =
    ap (with_numbered t job) (exact_number (field job 1) h.0 h.1.numbered) ∙ rw (h.1.summary, not_negative (field job 2) h.2, h.3) refl
job_fault t job kinds.TooManyJobs h =
    let full : leb 4194304 (length t.entries) ≡ true = le-leb 4194304 (length t.entries) h.4 in
    ap (with_numbered t job) (exact_number (field job 1) h.0 h.1.numbered) ∙ rw (h.1.summary, not_negative (field job 2) h.2, has_none h.0 t.entries h.3, full) refl
job_fault t job kinds.Memory h = absurd h
job_fault t job kinds.LineTooLong h = absurd h
job_fault t job kinds.NotAscii h = absurd h
job_fault t job kinds.FieldCount h = absurd h
job_fault t job (kinds.BadNumber place) h = absurd h

read_fault : (t : LogText) (line : List ℕ) (r : LineRead) (kind : FaultKind) → IsReadFault t r kind → with_read t line r ≡ Err kind
read_fault t line read.Blank kind h = absurd h
read_fault t line read.Comment kind h = absurd h
read_fault t line (read.Job job) kind h = job_fault t job.0 kind h
read_fault t line (read.Fault fault) kind h = ap Err (sym h)

line_fault : (t : LogText) (line : List ℕ) (kind : FaultKind) → IsLineFault t line kind → with_line t line ≡ Err kind
unfolding with_line
line_fault t line kind h = ap (with_read t line) (line_of-IsReadAs line h.read h.is) ∙ read_fault t line h.read kind h.fault

behind : (number : ℕ) (t u : LogText) (front : List (List ℕ)) (line : List ℕ) (rest : List (List ℕ)) (kind : FaultKind) → IsTextFrom t front u → with_line u line ≡ Err kind → with_lines number t (front ++ line ∷ rest) ≡ Err (record { line = number + length front; kind = kind })
unfolding with_lines
behind number t u [] line rest kind h is =
    let same : t ≡ u = sym h in
    let place : number ≡ number + 0 = omega arith in
    ap (λ (v : LogText). at_line number (with_line v line) (λ next. with_lines (number + 1) next rest)) same ∙ rw is (ap (λ (k : ℕ). Err (record { line = k; kind = kind })) place)
behind number t u (first ∷ front) line rest kind h is =
    let place : number + 1 + length front ≡ number + suc (length front) = omega arith in
    rw (adds_line t first h.0 h.1) (behind (number + 1) h.0 u front line rest kind h.2 is ∙ ap (λ (k : ℕ). Err (record { line = k; kind = kind })) place)

front_text : (t : LogText) (ls : List (List ℕ)) (u : LogText) → IsTextFrom t ls u → (k : ℕ) → (v : LogText) × IsTextFrom t (take k ls) v
front_text t ls u h zero = (t, refl)
front_text t [] u h (suc k) = (t, refl)
front_text t (line ∷ ls) u h (suc k) = let front = front_text h.0 ls u h.2 k in (front.0, (h.0, h.1, front.1))

apart_at : (ls : List (List ℕ)) (k : ℕ) → k < length ls → take k ls ++ get_or ls k [] ∷ drop (suc k) ls ≡ ls
apart_at ls k lt = ap (λ (rest : List (List ℕ)). take k ls ++ rest) (sym (drop-cons ls k [] lt)) ∙ take-append-drop k ls

module _ (ls : List (List ℕ)) (fault : SwfFault) (before : ℕ) (next : fault.line ≡ before + 1) (h : FirstFault ls fault) where
  within : before < length ls
  within = omega (arith, next, h.within)

  text : IsText (take before ls) h.before
  text = let place : fault.line - 1 ≡ before = omega (arith, next) in subst (λ (k : ℕ). IsText (take k ls) h.before) place h.text

  refused : with_line h.before (get_or ls before []) ≡ Err fault.kind
  refused =
      let place : fault.line - 1 ≡ before = omega (arith, next) in
      ap (λ (k : ℕ). with_line h.before (get_or ls k [])) (sym place) ∙ line_fault h.before (get_or ls (fault.line - 1) []) fault.kind h.refused

  outcome : (rest : List (List ℕ)) → with_lines 1 empty (take before ls ++ get_or ls before [] ∷ rest) ≡ Err fault
  outcome rest =
      let place : 1 + length (take before ls) ≡ fault.line = omega (arith, length-take-le before ls (omega (arith, within)), next) in
      behind 1 empty h.before (take before ls) (get_or ls before []) rest fault.kind text refused ∙ ap (λ (k : ℕ). Err (record { line = k; kind = fault.kind })) place

  outcome_of_all : with_lines 1 empty ls ≡ Err fault
  outcome_of_all = ap (with_lines 1 empty) (sym (apart_at ls before within)) ∙ outcome (drop (suc before) ls)

  outcome_at_once : with_lines 1 empty (take fault.line ls) ≡ Err fault
  outcome_at_once = ap (λ (k : ℕ). with_lines 1 empty (take k ls)) next ∙ ap (with_lines 1 empty) (take_more ls before [] within) ∙ outcome []

  fewer_text : (count : ℕ) → count ≤ before → (t : LogText) × IsText (take count ls) t
  fewer_text count le =
      let front = front_text empty (take before ls) h.before text count in
      (front.0, subst (λ (some : List (List ℕ)). IsText some front.0) (take-take count before ls le) front.1)

fault_read : (ls : List (List ℕ)) (fault : SwfFault) → FirstFault ls fault → with_lines 1 empty ls ≡ Err fault
fault_read ls fault h = outcome_of_all ls fault (fault.line - 1) (omega (arith, h.counted)) h

-- the lines up to the first fault are no text, and fewer of them are one, however many
pub least : (ls : List (List ℕ)) (fault : SwfFault) → FirstFault ls fault → IsLeastNoText ls fault.line
least ls fault h =
    let next : fault.line ≡ fault.line - 1 + 1 = omega (arith, h.counted) in
    record {
      none = λ t is. let read = sym (text_read 1 empty (take fault.line ls) t is) ∙ outcome_at_once ls fault (fault.line - 1) next h in absurd cc;
      fewer = λ count lt. fewer_text ls fault (fault.line - 1) next h count (omega (arith, lt));
    }

-- lines have one first fault alone
pub unique : (ls : List (List ℕ)) (f g : SwfFault) → FirstFault ls f → FirstFault ls g → g ≡ f
unique ls f g p q = err_is {A = LogText} g f (sym (fault_read ls g q) ∙ fault_read ls f p)

-- lines that are a text have no first fault
pub no_text : (ls : List (List ℕ)) (t : LogText) (f : SwfFault) → IsText ls t → FirstFault ls f → ⊥
no_text ls t f is h = let read = sym (text_read 1 empty ls t is) ∙ fault_read ls f h in absurd cc

-- lines are a text, or they have a first fault
pub one_of_two : (ls : List (List ℕ)) → ((t : LogText) × IsText ls t) ⊎ ((f : SwfFault) × FirstFault ls f)
one_of_two ls = go (with_lines 1 empty ls) refl
  where
    go : (r : Result LogText SwfFault) → with_lines 1 empty ls ≡ r → ((t : LogText) × IsText ls t) ⊎ ((f : SwfFault) × FirstFault ls f)
    go (Ok t) is = inl (t, read_text 1 empty ls t is)
    go (Err f) is = inr (f, first_fault ls f is)
