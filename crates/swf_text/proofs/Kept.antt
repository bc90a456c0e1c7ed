-- What holds of each text that is read (sound comments, entries of values, distinct numbers), and that it is read back from
-- what is written of it.
use Rattle.std.proofs.Common.{◌≡◌, ℕ, zero, suc, ◌*◌, ◌<◌, ◌≤◌, Bool, true, false, List, [], ◌∷◌, ◌++◌, length, get_or, Result, Ok, Err, ℤ, pos, refl, sym, ap, subst, ◌∙◌, arith, inl, inr}
use Rattle.std.specs.Prelude.{nat_abs, IfOk}
use Rattle.std.specs.List.{AllByRecursion, count_by}
use Rattle.std.proofs.lemmas.List.{length-append}
use Rattle.swf_text.specs.Limits.{whole_limit}
use Rattle.swf_text.specs.declared.fault.SwfFault.{SwfFault}
use Rattle.swf_text.specs.declared.line.LineRead.{LineRead}
use Rattle.swf_text.specs.declared.line.LineRead.TheVariants as read
use Rattle.swf_text.specs.Number.{greatest, signed, magnitude}
use Rattle.swf_text.specs.Line.{IsReadAs, IsJobLine, AreSpelled, fields, without_returns, from_first}
use Rattle.swf_text.specs.Entry.{AreFields, HasFields, HasNumber, IsEntry, IsPart, LogEntry, field, has_number}
use Rattle.swf_text.specs.Log.{IsLog}
use Rattle.swf_text.specs.Text.{LogText, empty, lines}
use Rattle.swf_text.specs.Grammar.{AddsJob, AddsPart, AddsRead, IsTextFrom, IsText}
use Rattle.swf_text.specs.Comment.{IsComment}
use Rattle.swf_text.specs.Writing.{text_bytes}
use Rattle.swf_text.proofs.Entries.{all_end, count-append, log_kept, log_more}
use Rattle.swf_text.proofs.Grammars.{exact_number, has_none, text_read, ok_is}
use Rattle.swf_text.proofs.Printed.{HasNoFeed}
use Rattle.swf_text.proofs.Comments.{lines_no_feed, read_comment}
use Rattle.swf_text.proofs.Trips.{read_again}

signed_within : (n : Bool) (m : ℕ) → nat_abs (signed n m) ≡ m
signed_within true zero = refl
signed_within true (suc m) = refl
signed_within false m = refl

spelled_count : (words : List (List ℕ)) (vs : List ℤ) → AreSpelled words vs → length vs ≡ length words
spelled_count [] [] h = refl
spelled_count [] (v ∷ vs) h = absurd h
spelled_count (word ∷ words) [] h = absurd h
spelled_count (word ∷ words) (v ∷ vs) h = ap suc (spelled_count words vs h.1)

spelled_within : (words : List (List ℕ)) (vs : List ℤ) → AreSpelled words vs → AllByRecursion (λ v. nat_abs v ≤ greatest) vs
spelled_within [] [] h = tt
spelled_within [] (v ∷ vs) h = absurd h
spelled_within (word ∷ words) [] h = absurd h
spelled_within (word ∷ words) (v ∷ vs) h =
    let size : nat_abs v ≡ magnitude h.0.parts = ap nat_abs h.0.value ∙ signed_within h.0.parts.is_negative (magnitude h.0.parts) in
    (subst (λ (m : ℕ). m ≤ greatest) (sym size) h.0.fits, spelled_within words vs h.1)

job_fields : (line : List ℕ) (job : List ℤ) → IsJobLine line job → AreFields job
job_fields line job h = record {
  eighteen = spelled_count (fields (without_returns line)) job h.spelled ∙ h.eighteen;
  within = spelled_within (fields (without_returns line)) job h.spelled;
}

all_at : {X : Type 0} (P : X → Type 0) (xs : List X) (k : ℕ) (d : X) → AllByRecursion P xs → k < length xs → P (get_or xs k d)
all_at P [] k d h lt = absurd (omega arith)
all_at P (x ∷ xs) zero d h lt = h.0
all_at P (x ∷ xs) (suc k) d h lt = all_at P xs k d h.1 (omega arith)

number_small : (v : ℤ) (number : ℕ) → v ≡ pos (1000000 * number) → nat_abs v ≤ greatest → number ≤ whole_limit
number_small v number is fits = let size : nat_abs v ≡ 1000000 * number = ap nat_abs is in omega (arith, size, fits)

all_front : {X : Type 0} (P : X → Type 0) (front : List X) (last : X) → AllByRecursion P (front ++ last ∷ []) → AllByRecursion P front × P last
all_front P [] last h = (tt, h.0)
all_front P (x ∷ front) last h = let rest = all_front P front last h.1 in ((h.0, rest.0), rest.1)

all_last : {X : Type 0} (P : X → Type 0) (old new front : List X) (last next : X) → old ≡ front ++ last ∷ [] → new ≡ front ++ next ∷ [] → (P last → P next) → AllByRecursion P old → AllByRecursion P new
all_last P old new front last next old_is new_is step h =
    let parts = all_front P front last (subst (AllByRecursion P) old_is h) in
    subst (AllByRecursion P) (sym new_is) (all_end P front next parts.0 (step parts.1))

pub record IsSound (t : LogText) : Type 0 where
  pub comments : AllByRecursion IsComment t.comments
  pub fields : AllByRecursion HasFields t.entries
  pub log : IsLog t.entries

job_kept : (t : LogText) (line : List ℕ) (job : List ℤ) (u : LogText) → IsJobLine line job → AddsJob t job u → IsSound t → IsSound u
job_kept t line job u is h sound =
    let new : LogEntry = record { main = job; parts = [] } in
    let values = job_fields line job is in
    let entries : u.entries ≡ t.entries ++ new ∷ [] = ap (λ (x : LogText). x.entries) h.value in
    let number_at = all_at (λ (v : ℤ). nat_abs v ≤ greatest) job 0 (pos 0) values.within (omega (arith, values.eighteen)) in
    let submit_at = all_at (λ (v : ℤ). nat_abs v ≤ greatest) job 1 (pos 0) values.within (omega (arith, values.eighteen)) in
    let entry : IsEntry new = record {
      number = h.number;
      eighteen = values.eighteen;
      numbered = h.line.numbered;
      number_limit = number_small (field job 1) h.number h.line.numbered number_at;
      submit = h.submit;
      submit_limit = submit_at;
      summary = h.line.summary;
      parts = tt;
    } in
    record {
      comments = subst (AllByRecursion IsComment) (ap (λ (x : LogText). x.comments) (sym h.value)) sound.comments;
      fields = subst (AllByRecursion HasFields) (sym entries) (all_end HasFields t.entries new sound.fields (record { main = values; parts = tt }));
      log = log_more t.entries u.entries new h.number sound.log entry entries (exact_number (field job 1) h.number h.line.numbered) (has_none h.number t.entries h.new) h.capacity;
    }

part_kept : (t : LogText) (line : List ℕ) (part : List ℤ) (u : LogText) → IsJobLine line part → AddsPart t part u → IsSound t → IsSound u
part_kept t line part u is h sound =
    let next : LogEntry = record h.last { parts = h.last.parts ++ part ∷ [] } in
    let values = job_fields line part is in
    let entries : u.entries ≡ h.front ++ next ∷ [] = ap (λ (x : LogText). x.entries) h.value in
    let count : (n : ℕ) → count_by (has_number n) u.entries ≡ count_by (has_number n) t.entries = λ n.
    let same : count_by (has_number n) (next ∷ []) ≡ count_by (has_number n) (h.last ∷ []) = refl in
    omega (arith, ap (count_by (has_number n)) entries, ap (count_by (has_number n)) h.entries, count-append (has_number n) h.front (next ∷ []), count-append (has_number n) h.front (h.last ∷ []), same) in
    record {
      comments = subst (AllByRecursion IsComment) (ap (λ (x : LogText). x.comments) (sym h.value)) sound.comments;
      fields = all_last HasFields t.entries u.entries h.front h.last next h.entries entries (λ old. record { main = old.main; parts = all_end AreFields h.last.parts part old.parts values }) sound.fields;
      log = log_kept t.entries u.entries sound.log
          (all_last IsEntry t.entries u.entries h.front h.last next h.entries entries part_entry)
          (omega (arith, ap length entries, ap length h.entries, length-append h.front (next ∷ []), length-append h.front (h.last ∷ [])))
          count;
    }
  where
    same_number : (a b : ℕ) (v : ℤ) → v ≡ pos (1000000 * a) → v ≡ pos (1000000 * b) → a ≡ b
    same_number a b v p q = omega (arith, ap nat_abs p, ap nat_abs q)

    part_entry : IsEntry h.last → IsEntry (record h.last { parts = h.last.parts ++ part ∷ [] })
    part_entry entry =
        let number : h.number ≡ entry.number = same_number h.number entry.number (field h.last.main 1) h.same entry.numbered in
        let joins : IsPart entry.number part = record { numbered = subst (HasNumber part) number h.line.numbered; partial = h.line.partial } in
        record {
          number = entry.number;
          eighteen = entry.eighteen;
          numbered = entry.numbered;
          number_limit = entry.number_limit;
          submit = entry.submit;
          submit_limit = entry.submit_limit;
          summary = entry.summary;
          parts = all_end (IsPart entry.number) h.last.parts part entry.parts joins;
        }

line_kept : (t : LogText) (line : List ℕ) (r : LineRead) (u : LogText) → HasNoFeed line → IsReadAs line r → AddsRead t line r u → IsSound t → IsSound u
line_kept t line read.Blank u no_feed is h sound = subst IsSound (sym h) sound
line_kept t line read.Comment u no_feed is h sound =
    subst IsSound (sym h) (record { comments = all_end IsComment t.comments (from_first (without_returns line)) sound.comments (read_comment line no_feed is); fields = sound.fields; log = sound.log })
line_kept t line (read.Job job) u no_feed is (inl adds) sound = job_kept t line job.0 u is adds sound
line_kept t line (read.Job job) u no_feed is (inr adds) sound = part_kept t line job.0 u is adds sound
line_kept t line (read.Fault fault) u no_feed is h sound = absurd h

text_kept : (t : LogText) (ls : List (List ℕ)) (u : LogText) → AllByRecursion HasNoFeed ls → IsTextFrom t ls u → IsSound t → IsSound u
text_kept t [] u no_feed h sound = subst IsSound (sym h) sound
text_kept t (line ∷ ls) u no_feed h sound = text_kept h.0 ls u no_feed.1 h.2 (line_kept t line h.1.read h.0 no_feed.0 h.1.is h.1.adds sound)

-- the text that lines are is sound
pub text_sound : (bytes : List ℕ) (t : LogText) → IsText (lines bytes) t → IsSound t
text_sound bytes t h = text_kept empty (lines bytes) t (lines_no_feed bytes) h (record { comments = tt; fields = tt; log = record { sound = tt; distinct = λ n. omega arith; capacity = omega arith } })

-- the comments of a text that is read are sound
pub read_comments : (bytes : List ℕ) (t : LogText) → IsText (lines bytes) t → AllByRecursion IsComment t.comments
read_comments bytes t h = (text_sound bytes t h).comments

-- where a reading answers the text of the bytes, the comments of its text are sound
pub gives_comments : (bytes : List ℕ) (r : Result LogText SwfFault) → IfOk r (λ text. IsText (lines bytes) text) → IfOk r (λ text. AllByRecursion IsComment text.comments)
gives_comments bytes (Ok t) h = read_comments bytes t h
gives_comments bytes (Err fault) h = tt

-- a text that is read is read again from what is written of it
pub text_again : (bytes : List ℕ) (t : LogText) → IsText (lines bytes) t → IsText (lines (text_bytes t)) t
text_again bytes t h = let sound = text_sound bytes t h in read_again t sound.comments sound.fields sound.log

-- lines are one text alone
pub one_text : (ls : List (List ℕ)) (t u : LogText) → IsText ls t → IsText ls u → u ≡ t
one_text ls t u p q = ok_is t u (sym (text_read 1 empty ls t p) ∙ text_read 1 empty ls u q)
