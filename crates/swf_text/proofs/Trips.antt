-- What is written of a sound log is read back as that log: its bytes are its lines, each with a line feed behind it and none within,
-- and the lines are read one after another.
use Rattle.std.proofs.Common.{◌≡◌, ℕ, Bool, true, false, List, [], ◌∷◌, ◌++◌, map, ℤ, refl, sym, ap, subst, ◌∙◌, append_assoc, arith, inl, inr}
use Rattle.std.specs.List.{AllByRecursion, flat_map, list_any, slice_split, count_by}
use Rattle.std.proofs.lemmas.Grind.{flat_map-append}
use Rattle.std.proofs.lemmas.Bool.{le-ltb}
use Rattle.std.proofs.lemmas.List.{append-nil, length-append}
use Rattle.std.proofs.lemmas.List.Splits.{slice_split_at}
use Rattle.swf_text.specs.Entry.{AreFields, HasFields, HasNumber, IsEntry, IsPart, LogEntry, has_number}
use Rattle.swf_text.specs.Log.{IsLog}
use Rattle.swf_text.specs.declared.line.LineRead.TheVariants as read
use Rattle.swf_text.specs.Text.{LogText, is_feed, lines, without_empty_end}
use Rattle.swf_text.specs.Grammar.{AddsJob, AddsPart, IsTextFrom, IsText}
use Rattle.swf_text.specs.Comment.{IsComment}
use Rattle.swf_text.specs.Writing.{line_text, comment_text, entry_text, text_bytes}
use Rattle.swf_text.proofs.Texts.{more_parts}
use Rattle.swf_text.proofs.Entries.{count-cons, count-append, any_counted}
use Rattle.swf_text.proofs.Grammars.{none_has, exact_has}
use Rattle.swf_text.proofs.Printed.{HasNoFeed, line_body, none_passes, job_read, comment_read, body_no_feed}

abbrev pub entry_lines : LogEntry → List (List ℕ)
entry_lines entry = line_body entry.main ∷ map line_body entry.parts

abbrev pub text_lines : LogText → List (List ℕ)
text_lines text = text.comments ++ flat_map entry_lines text.entries

abbrev fed : List ℕ → List ℕ
fed line = line ++ 10 ∷ []

split_joined : (ls : List (List ℕ)) → AllByRecursion HasNoFeed ls → slice_split is_feed (flat_map fed ls) ≡ ls ++ [] ∷ []
split_joined [] h = refl
split_joined (l ∷ ls) h =
    ap (slice_split is_feed) (append_assoc l (10 ∷ []) (flat_map fed ls))
    ∙ slice_split_at is_feed l 10 (flat_map fed ls) (none_passes is_feed l h.0) refl
    ∙ ap (λ (rest : List (List ℕ)). l ∷ rest) (split_joined ls h.1)

without_last : (ls : List (List ℕ)) → without_empty_end (ls ++ [] ∷ []) ≡ ls
without_last [] = refl
without_last (l ∷ ls) = more_parts l (ls ++ [] ∷ []) (omega (arith, length-append ls ([] ∷ []))) ∙ ap (λ (rest : List (List ℕ)). l ∷ rest) (without_last ls)

lines_joined : (ls : List (List ℕ)) → AllByRecursion HasNoFeed ls → lines (flat_map fed ls) ≡ ls
lines_joined ls h = ap without_empty_end (split_joined ls h) ∙ without_last ls

line_fed : (vs : List ℤ) → line_text vs ≡ fed (line_body vs)
line_fed [] = refl
line_fed (v ∷ vs) = refl

parts_fed : (ps : List (List ℤ)) → flat_map line_text ps ≡ flat_map fed (map line_body ps)
parts_fed [] = refl
parts_fed (p ∷ ps) = rw (line_fed p, parts_fed ps) refl

jobs_fed : (jobs : List LogEntry) → flat_map entry_text jobs ≡ flat_map fed (flat_map entry_lines jobs)
jobs_fed [] = refl
jobs_fed (job ∷ jobs) =
    ap (λ (rest : List ℕ). entry_text job ++ rest) (jobs_fed jobs)
    ∙ ap (λ (front : List ℕ). front ++ flat_map fed (flat_map entry_lines jobs)) (ap (λ (front : List ℕ). front ++ flat_map line_text job.parts) (line_fed job.main) ∙ ap (λ (rest : List ℕ). fed (line_body job.main) ++ rest) (parts_fed job.parts))
    ∙ sym (flat_map-append fed (entry_lines job) (flat_map entry_lines jobs))

text_fed : (t : LogText) → text_bytes t ≡ flat_map fed (text_lines t)
text_fed t = ap (λ (rest : List ℕ). flat_map comment_text t.comments ++ rest) (jobs_fed t.entries) ∙ sym (flat_map-append fed t.comments (flat_map entry_lines t.entries))

all_joined : {X : Type 0} (P : X → Type 0) (xs ys : List X) → AllByRecursion P xs → AllByRecursion P ys → AllByRecursion P (xs ++ ys)
all_joined P [] ys p q = q
all_joined P (x ∷ xs) ys p q = (p.0, all_joined P xs ys p.1 q)

all_mapped : {X Y : Type 0} (P : X → Type 0) (Q : Y → Type 0) (f : X → Y) → ((x : X) → P x → Q (f x)) → (xs : List X) → AllByRecursion P xs → AllByRecursion Q (map f xs)
all_mapped P Q f g [] h = tt
all_mapped P Q f g (x ∷ xs) h = (g x h.0, all_mapped P Q f g xs h.1)

jobs_no_feed : (jobs : List LogEntry) → AllByRecursion HasFields jobs → AllByRecursion HasNoFeed (flat_map entry_lines jobs)
jobs_no_feed [] h = tt
jobs_no_feed (job ∷ jobs) h =
    (body_no_feed job.main h.0.main, all_joined HasNoFeed (map line_body job.parts) (flat_map entry_lines jobs) (all_mapped AreFields HasNoFeed line_body body_no_feed job.parts h.0.parts) (jobs_no_feed jobs h.1))

comments_no_feed : (cs : List (List ℕ)) → AllByRecursion IsComment cs → AllByRecursion HasNoFeed cs
comments_no_feed [] h = tt
comments_no_feed (c ∷ cs) h = (h.0.no_feed, comments_no_feed cs h.1)

pub written_lines : (t : LogText) → AllByRecursion IsComment t.comments → AllByRecursion HasFields t.entries → lines (text_bytes t) ≡ text_lines t
written_lines t c f =
    ap lines (text_fed t) ∙ lines_joined (text_lines t) (all_joined HasNoFeed t.comments (flat_map entry_lines t.entries) (comments_no_feed t.comments c) (jobs_no_feed t.entries f))

abbrev text_with : List (List ℕ) → List LogEntry → LogText
text_with comments entries = record { comments = comments; entries = entries }

comments_read : (done cs : List (List ℕ)) (rest : List (List ℕ)) (u : LogText) → AllByRecursion IsComment cs → IsTextFrom (text_with (done ++ cs) []) rest u → IsTextFrom (text_with done []) (cs ++ rest) u
comments_read done [] rest u h later = subst (λ (l : List (List ℕ)). IsTextFrom (text_with l []) rest u) (append-nil done) later
comments_read done (c ∷ cs) rest u h later =
    let is = comment_read c h.0 in (
      text_with (done ++ c ∷ []) [],
      record { read = read.Comment; is = is.0; adds = ap (λ (l : List ℕ). text_with (done ++ l ∷ []) []) (sym is.1) },
      comments_read (done ++ c ∷ []) cs rest u h.1 (subst (λ (l : List (List ℕ)). IsTextFrom (text_with l []) rest u) (sym (append_assoc done (c ∷ []) cs)) later),
    )

abbrev job_with : List ℤ → List (List ℤ) → LogEntry
job_with main parts = record { main = main; parts = parts }

parts_read : (comments : List (List ℕ)) (front : List LogEntry) (main : List ℤ) (number : ℕ) (done ps : List (List ℤ)) (rest : List (List ℕ)) (u : LogText) → HasNumber main number → AllByRecursion (IsPart number) ps → AllByRecursion AreFields ps
    → IsTextFrom (text_with comments (front ++ job_with main (done ++ ps) ∷ [])) rest u → IsTextFrom (text_with comments (front ++ job_with main done ∷ [])) (map line_body ps ++ rest) u
parts_read comments front main number done [] rest u numbered h f later = subst (λ (l : List (List ℤ)). IsTextFrom (text_with comments (front ++ job_with main l ∷ [])) rest u) (append-nil done) later
parts_read comments front main number done (p ∷ ps) rest u numbered h f later =
    let next = text_with comments (front ++ job_with main (done ++ p ∷ []) ∷ []) in
    let adds : AddsPart (text_with comments (front ++ job_with main done ∷ [])) p next = record {
      number = number;
      line = record { numbered = h.0.numbered; partial = h.0.partial };
      front = front;
      last = job_with main done;
      entries = refl;
      same = numbered;
      value = refl;
    } in (
      next,
      record { read = read.Job (record { 0 = p }); is = job_read p f.0; adds = inr adds },
      parts_read comments front main number (done ++ p ∷ []) ps rest u numbered h.1 f.1 (subst (λ (l : List (List ℤ)). IsTextFrom (text_with comments (front ++ job_with main l ∷ [])) rest u) (sym (append_assoc done (p ∷ []) ps)) later),
    )

count_none : {X : Type 0} (p : X → Bool) (xs : List X) → count_by p xs ≡ 0 → list_any p xs ≡ false
count_none p xs none = any_counted p xs ∙ le-ltb 0 (count_by p xs) (omega (arith, none))

jobs_read : (comments : List (List ℕ)) (done jobs : List LogEntry) → AllByRecursion IsEntry jobs → AllByRecursion HasFields jobs → IsLog (done ++ jobs) → IsTextFrom (text_with comments done) (flat_map entry_lines jobs) (text_with comments (done ++ jobs))
jobs_read comments done [] h f log = ap (text_with comments) (append-nil done)
jobs_read comments done (job ∷ jobs) h f log =
    let entry = h.0 in
    let one = text_with comments (done ++ job_with job.main [] ∷ []) in
    let whole : done ++ job ∷ jobs ≡ (done ++ job ∷ []) ++ jobs = sym (append_assoc done (job ∷ []) jobs) in
    let here : has_number entry.number job ≡ true = exact_has entry.number job entry.numbered in
    let new : list_any (has_number entry.number) done ≡ false = count_none (has_number entry.number) done (omega (arith, log.distinct entry.number, count-append (has_number entry.number) done (job ∷ jobs), count-cons (has_number entry.number) job jobs true here)) in
    let adds : AddsJob (text_with comments done) job.main one = record {
      number = entry.number;
      line = record { numbered = entry.numbered; summary = entry.summary };
      submit = entry.submit;
      new = none_has entry.number done new;
      capacity = omega (arith, log.capacity, length-append done (job ∷ jobs));
      value = refl;
    } in
    let others : IsTextFrom (text_with comments (done ++ job ∷ [])) (flat_map entry_lines jobs) (text_with comments (done ++ job ∷ jobs)) =
    subst (λ (js : List LogEntry). IsTextFrom (text_with comments (done ++ job ∷ [])) (flat_map entry_lines jobs) (text_with comments js)) (sym whole) (jobs_read comments (done ++ job ∷ []) jobs h.1 f.1 (subst IsLog whole log)) in (
      one,
      record { read = read.Job (record { 0 = job.main }); is = job_read job.main f.0.main; adds = inl adds },
      parts_read comments done job.main entry.number [] job.parts (flat_map entry_lines jobs) (text_with comments (done ++ job ∷ jobs)) entry.numbered entry.parts f.0.parts others,
    )

-- what is written of a sound log is read as that log
pub read_again : (t : LogText) → AllByRecursion IsComment t.comments → AllByRecursion HasFields t.entries → IsLog t.entries → IsText (lines (text_bytes t)) t
read_again t c f log =
    subst (λ (ls : List (List ℕ)). IsText ls t) (sym (written_lines t c f)) (comments_read [] t.comments (flat_map entry_lines t.entries) t c (jobs_read t.comments [] t.entries log.sound f log))
