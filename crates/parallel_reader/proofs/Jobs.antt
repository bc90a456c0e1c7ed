-- Job lines that are read apart from those before them: the entries that they add, portions of a log that are cut behind line feeds, and
-- what portion after portion adds.
use Rattle.std.proofs.Common.{◌≡◌, ℕ, ◌+◌, ◌-◌, ◌<◌, ◌≤◌, true, false, List, [], ◌∷◌, ◌++◌, length, get_or, take, drop, map, Option, Some, None, Result, Ok, Err, refl, sym, ap, subst, ◌∙◌, append_assoc, arith, inl, inr}
use Rattle.std.specs.Prelude.{if◌then◌else◌, IfSome}
use Rattle.std.specs.List.{before_first, after_first, position_or_len, slice_split, onto_first}
use Rattle.std.proofs.lemmas.Bool.{cases_Bool, cases_lt, eqb-true}
use Rattle.std.proofs.Math.ListN.{drop_of_length-le}
use Rattle.std.proofs.lemmas.List.{append-nil, take_more, take_all, take_at, drop_at, length-append, take-append-drop, map-append}
use Rattle.std.proofs.lemmas.List.Sums.{split_at_first, passes_at_first}
use Rattle.std.proofs.lemmas.List.Splits.{slice_split-cons_yes, slice_split-cons_no, length-slice_split}
use Rattle.std.proofs.lemmas.Grind.{flat_map-append}
use denote.Ref.{Bor}
use Rattle.swf_text.specs.declared.fault.FaultKind.{FaultKind}
use Rattle.swf_text.specs.declared.line.Fields.{Fields}
use Rattle.swf_text.specs.declared.packed.PackedLine.{PackedLine}
use Rattle.swf_text.specs.declared.line.LineRead.{LineRead}
use Rattle.swf_text.specs.declared.line.LineRead.TheVariants as read
use Rattle.swf_text.specs.Entry.{LogEntry}
use Rattle.swf_text.specs.Line.{line_of}
use Rattle.swf_text.specs.Text.{LogText, lines, is_feed, without_empty_end}
use Rattle.swf_text.specs.Reading.{with_job, with_line, with_lines, with_read, at_line}
use Rattle.swf_text.proofs.Lemmas.{lines-next}
use Rattle.parallel_reader.specs.Adding.{texts}
use Rattle.parallel_reader.specs.declared.portion.Counts.{Counts}
use Rattle.parallel_reader.specs.declared.portion.JobLines.{JobLines}
use Rattle.parallel_reader.specs.Fronts.{AreJobsIn}
use Rattle.parallel_reader.specs.Jobs.{BeginsJobs, AreCounted, AreJobs, AreRead, IsReadOf, job_of, after_job, with_jobs, AddsJobs, AddsAll, Below, Extends, portion_lines}
use Rattle.parallel_reader.proofs.Adding.{lines_after}

jobs_append : (xs ys : List (List ℕ)) (js ks : List Fields) → AreJobs xs js → AreJobs ys ks → AreJobs (xs ++ ys) (js ++ ks)
jobs_append [] ys js ks h k = subst (λ (l : List Fields). AreJobs ys (l ++ ks)) (sym h) k
jobs_append (x ∷ xs) ys js ks h k = go (λ l b. jobs_append xs ys l ks b k) (line_of x) h
  where
    go : ((l : List Fields) → AreJobs xs l → AreJobs (xs ++ ys) (l ++ ks)) → (r : LineRead) → BeginsJobs r (AreJobs xs) js → BeginsJobs r (AreJobs (xs ++ ys)) (js ++ ks)
    go later read.Blank b = later js b
    go later read.Comment b = absurd b
    go later (read.Job job) b = (b.0 ++ ks, ap (λ (l : List Fields). l ++ ks) b.1, later b.0 b.2)
    go later (read.Fault fault) b = absurd b

-- a blank line more adds no job line
pub blank_more : (ls : List (List ℕ)) (line : List ℕ) (jobs : List Fields) → AreJobs ls jobs → line_of line ≡ read.Blank → AreJobs (ls ++ line ∷ []) jobs
blank_more ls line jobs h is =
    let one : AreJobs (line ∷ []) [] = subst (λ (r : LineRead). BeginsJobs r (AreJobs []) []) (sym is) refl in
    subst (AreJobs (ls ++ line ∷ [])) (append-nil jobs) (jobs_append ls (line ∷ []) jobs [] h one)

-- a job line more is the last of the job lines
pub job_line_more : (ls : List (List ℕ)) (line : List ℕ) (jobs : List Fields) (job : Fields) → AreJobs ls jobs → line_of line ≡ read.Job job → AreJobs (ls ++ line ∷ []) (jobs ++ job ∷ [])
job_line_more ls line jobs job h is =
    let one : AreJobs (line ∷ []) (job ∷ []) = subst (λ (r : LineRead). BeginsJobs r (AreJobs []) (job ∷ [])) (sym is) ([], refl, refl) in
    jobs_append ls (line ∷ []) jobs (job ∷ []) h one

job_step : (number : ℕ) (u : LogText) (ls : List (List ℕ)) (rest : List Fields) → ((v : LogText) → with_jobs v rest ≡ Ok u → with_lines (number + 1) v ls ≡ Ok u) → (r : Result LogText FaultKind) → after_job r (λ next. with_jobs next rest) ≡ Ok u → at_line number r (λ next. with_lines (number + 1) next ls) ≡ Ok u
job_step number u ls rest later (Err kind) e = absurd cc
job_step number u ls rest later (Ok v) e = later v e

no_jobs : (t u : LogText) → with_jobs t [] ≡ Ok u → t ≡ u
no_jobs t u h = cc

jobs_lines : (number : ℕ) (t u : LogText) (ls : List (List ℕ)) (jobs : List Fields) → AreJobs ls jobs → with_jobs t jobs ≡ Ok u → with_lines number t ls ≡ Ok u
unfolding with_lines with_line
jobs_lines number t u [] jobs h done = ap Ok (no_jobs t u (sym (ap (with_jobs t) h) ∙ done))
jobs_lines number t u (line ∷ ls) jobs h done = go (λ rest are v e. jobs_lines (number + 1) v u ls rest are e) (line_of line) h
  where
    go : ((rest : List Fields) → AreJobs ls rest → (v : LogText) → with_jobs v rest ≡ Ok u → with_lines (number + 1) v ls ≡ Ok u) → (r : LineRead) → BeginsJobs r (AreJobs ls) jobs → at_line number (with_read t line r) (λ next. with_lines (number + 1) next ls) ≡ Ok u
    go later read.Blank b = later jobs b t done
    go later read.Comment b = absurd b
    go later (read.Job job) b = job_step number u ls b.0 (later b.0 b.2) (with_job t job.0) (sym (ap (with_jobs t) b.1) ∙ done)
    go later (read.Fault fault) b = absurd b

pub portion_added : (old new : List LogEntry) (ls : List (List ℕ)) (jobs : List Fields) → AreJobs ls jobs → AddsJobs old jobs new → AddsAll old ls new
portion_added old new ls jobs are adds = λ number comments. jobs_lines number _ _ ls jobs are (adds comments)

jobs_after : (t u : LogText) (xs ys : List Fields) → with_jobs t xs ≡ Ok u → with_jobs t (xs ++ ys) ≡ with_jobs u ys
jobs_after t u [] ys h = let same : t ≡ u = cc in ap (λ (v : LogText). with_jobs v ys) same
jobs_after t u (x ∷ xs) ys h = step (λ v e. jobs_after v u xs ys e) (with_job t x.0) h
  where
    step : ((v : LogText) → with_jobs v xs ≡ Ok u → with_jobs v (xs ++ ys) ≡ with_jobs u ys) → (r : Result LogText FaultKind) → after_job r (λ next. with_jobs next xs) ≡ Ok u → after_job r (λ next. with_jobs next (xs ++ ys)) ≡ with_jobs u ys
    step later (Err kind) e = absurd cc
    step later (Ok v) e = later v e

pub jobs_then : (a b c : List LogEntry) (xs ys : List Fields) → AddsJobs a xs b → AddsJobs b ys c → AddsJobs a (xs ++ ys) c
jobs_then a b c xs ys h k = λ comments. jobs_after _ _ xs ys (h comments) ∙ k comments

-- the job line behind those that were added
pub jobs_next : (old t new : List LogEntry) (jobs : List PackedLine) (k : ℕ) (d : PackedLine) → k < length jobs → AddsJobs old (map job_of (take k jobs)) t → AddsJobs t (job_of (get_or jobs k d) ∷ []) new → AddsJobs old (map job_of (take (k + 1) jobs)) new
jobs_next old t new jobs k d lt h step =
    let more : map job_of (take (k + 1) jobs) ≡ map job_of (take k jobs) ++ job_of (get_or jobs k d) ∷ [] = ap (map job_of) (take_more jobs k d lt) ∙ map-append job_of (take k jobs) (get_or jobs k d ∷ []) in
    subst (λ (js : List Fields). AddsJobs old js new) (sym more) (jobs_then old t new (map job_of (take k jobs)) (job_of (get_or jobs k d) ∷ []) h step)

-- no lines lead from entries to the same entries
pub all_none : (old : List LogEntry) → AddsAll old [] old
unfolding with_lines
all_none old = λ number comments. refl

pub all_then : (a b c : List LogEntry) (xs ys : List (List ℕ)) → AddsAll a xs b → AddsAll b ys c → AddsAll a (xs ++ ys) c
all_then a b c xs ys h k = λ number comments. lines_after number _ _ xs ys (h number comments) ∙ k (number + length xs) comments

pub portions_next : (old t new : List LogEntry) (ps : List (List ℕ)) (k : ℕ) → k < length ps → AddsAll old (portion_lines (take k ps)) t → AddsAll t (lines (get_or ps k [])) new → AddsAll old (portion_lines (take (k + 1) ps)) new
portions_next old t new ps k lt h step =
    let one : portion_lines (get_or ps k [] ∷ []) ≡ lines (get_or ps k []) = append-nil (lines (get_or ps k [])) in
    let more : portion_lines (take (k + 1) ps) ≡ portion_lines (take k ps) ++ lines (get_or ps k []) = ap portion_lines (take_more ps k [] lt) ∙ flat_map-append lines (take k ps) (get_or ps k [] ∷ []) ∙ ap (λ (l : List (List ℕ)). portion_lines (take k ps) ++ l) one in
    subst (λ (ls : List (List ℕ)). AddsAll old ls new) (sym more) (all_then old t new (portion_lines (take k ps)) (lines (get_or ps k [])) h step)

-- where there are no entries, all job numbers are below 0
pub below_none : Below 0 []
below_none n there = absurd cc

abbrev closed : List ℕ → List (List ℕ)
closed [] = [] ∷ []
closed (b ∷ xs) = if is_feed b then [] ∷ closed xs else onto_first b (closed xs)

closed_feed : (b : ℕ) (xs : List ℕ) → is_feed b ≡ true → closed (b ∷ xs) ≡ [] ∷ closed xs
closed_feed b xs e = rw e refl

closed_other : (b : ℕ) (xs : List ℕ) → is_feed b ≡ false → closed (b ∷ xs) ≡ onto_first b (closed xs)
closed_other b xs e = rw e refl

onto_more : (b : ℕ) (front behind : List (List ℕ)) → 0 < length front → onto_first b (front ++ behind) ≡ onto_first b front ++ behind
onto_more b [] behind some = absurd (omega arith)
onto_more b (l ∷ ls) behind some = refl

onto_some : (b : ℕ) (ls : List (List ℕ)) → 0 < length ls → 0 < length (onto_first b ls)
onto_some b [] some = absurd (omega arith)
onto_some b (l ∷ ls) some = omega arith

closed_some : (xs : List ℕ) → 0 < length (closed xs)
closed_some [] = omega arith
closed_some (b ∷ xs) = elim (cases_Bool (is_feed b)) [
  | inl feed ↦ omega (arith, ap length (closed_feed b xs feed))
  | inr other ↦ omega (arith, ap length (closed_other b xs other), onto_some b (closed xs) (closed_some xs))
]

split_closed : (xs r : List ℕ) → slice_split is_feed (xs ++ 10 ∷ r) ≡ closed xs ++ slice_split is_feed r
split_closed [] r = slice_split-cons_yes is_feed 10 r refl
split_closed (b ∷ xs) r = elim (cases_Bool (is_feed b)) [
  | inl feed ↦ slice_split-cons_yes is_feed b (xs ++ 10 ∷ r) feed ∙ ap (λ (ls : List (List ℕ)). [] ∷ ls) (split_closed xs r) ∙ ap (λ (ls : List (List ℕ)). ls ++ slice_split is_feed r) (sym (closed_feed b xs feed))
  | inr other ↦
      slice_split-cons_no is_feed b (xs ++ 10 ∷ r) other ∙ ap (onto_first b) (split_closed xs r) ∙ onto_more b (closed xs) (slice_split is_feed r) (closed_some xs)
      ∙ ap (λ (ls : List (List ℕ)). ls ++ slice_split is_feed r) (sym (closed_other b xs other))
]

end_behind : (front behind : List (List ℕ)) → 0 < length behind → without_empty_end (front ++ behind) ≡ front ++ without_empty_end behind
end_behind [] behind some = refl
end_behind (l ∷ []) [] some = absurd (omega arith)
end_behind (l ∷ []) (m ∷ ms) some = refl
end_behind (l ∷ k ∷ ls) behind some = ap (λ (ms : List (List ℕ)). l ∷ ms) (end_behind (k ∷ ls) behind some)

lines_closed : (p r : List ℕ) → lines (p ++ 10 ∷ r) ≡ closed p ++ lines r
lines_closed p r = ap without_empty_end (split_closed p r) ∙ end_behind (closed p) (slice_split is_feed r) (omega (arith, length-slice_split is_feed r))

-- the lines up to a line feed, and those behind it, are the lines of all bytes
pub cut_lines : (p r : List ℕ) → lines (p ++ 10 ∷ []) ++ lines r ≡ lines (p ++ 10 ∷ r)
cut_lines p r =
    let alone : lines (p ++ 10 ∷ []) ≡ closed p = lines_closed p [] ∙ append-nil (closed p) in
    ap (λ (ls : List (List ℕ)). ls ++ lines r) alone ∙ sym (lines_closed p r)

cut_at : (bytes p after : List ℕ) → bytes ≡ (p ++ 10 ∷ []) ++ after → lines (take (length bytes - length after) bytes) ++ lines (drop (length bytes - length after) bytes) ≡ lines bytes
cut_at bytes p after split =
    let n : ℕ = length bytes - length after in
    let count : n ≡ length (p ++ 10 ∷ []) = omega (arith, ap length split, length-append (p ++ 10 ∷ []) after) in
    let front : take n bytes ≡ p ++ 10 ∷ [] = ap (λ (m : ℕ). take m bytes) count ∙ ap (take (length (p ++ 10 ∷ []))) split ∙ take_at (p ++ 10 ∷ []) after (length (p ++ 10 ∷ [])) refl in
    let back : drop n bytes ≡ after = ap (λ (m : ℕ). drop m bytes) count ∙ ap (drop (length (p ++ 10 ∷ []))) split ∙ drop_at (p ++ 10 ∷ []) after (length (p ++ 10 ∷ [])) refl in
    ap (λ (l : List ℕ). lines l ++ lines (drop n bytes)) front ∙ ap (λ (l : List ℕ). lines (p ++ 10 ∷ []) ++ lines l) back ∙ cut_lines p after ∙ ap lines (sym (split ∙ append_assoc p (10 ∷ []) after))

-- bytes that are cut behind a line feed, the first behind so many of them
pub whole_lines : (bytes after : List ℕ) (k : ℕ) → after ≡ after_first is_feed (drop k bytes) → lines (take (length bytes - length after) bytes) ++ lines (drop (length bytes - length after) bytes) ≡ lines bytes
whole_lines bytes after k is = elim (cases_lt (position_or_len is_feed (drop k bytes)) (length (drop k bytes))) [
  | inl lt ↦
      let s : List ℕ = drop k bytes in
      let feed : get_or s (position_or_len is_feed s) 0 ≡ 10 = eqb-true _ 10 (passes_at_first is_feed s 0 lt) in
      let p : List ℕ = take k bytes ++ before_first is_feed s in
      let behind : s ≡ before_first is_feed s ++ 10 ∷ after = split_at_first is_feed s 0 lt ∙ ap (λ (b : ℕ). before_first is_feed s ++ b ∷ after_first is_feed s) feed ∙ ap (λ (l : List ℕ). before_first is_feed s ++ 10 ∷ l) (sym is) in
      cut_at bytes p after (sym (take-append-drop k bytes) ∙ ap (λ (l : List ℕ). take k bytes ++ l) behind ∙ sym (append_assoc (take k bytes) (before_first is_feed s) (10 ∷ after)) ∙ sym (append_assoc p (10 ∷ []) after))
  | inr le ↦
      let none : after ≡ [] = is ∙ drop_of_length-le (drop k bytes) (omega arith) in
      let count : length bytes - length after ≡ length bytes = omega (arith, ap length none) in
      ap (λ (n : ℕ). lines (take n bytes) ++ lines (drop n bytes)) count
      ∙ ap (λ (l : List ℕ). lines l ++ lines (drop (length bytes) bytes)) (take_all (length bytes) bytes (omega arith))
      ∙ ap (λ (l : List ℕ). lines bytes ++ lines l) (drop_of_length-le bytes (omega arith))
      ∙ append-nil (lines bytes)
]

-- a portion behind those that were taken
pub portion_taken : (taken new : List (Bor (List ℕ))) (front : Bor (List ℕ)) (rest after bytes : List ℕ) → new ≡ taken ++ front ∷ [] → lines front.now ++ lines after ≡ lines rest → portion_lines (texts taken) ++ lines rest ≡ lines bytes → portion_lines (texts new) ++ lines after ≡ lines bytes
portion_taken taken new front rest after bytes is cut whole =
    let seen : texts new ≡ texts taken ++ front.now ∷ [] = ap texts is ∙ map-append (λ (l : Bor (List ℕ)). l.now) taken (front ∷ []) in
    let more : portion_lines (texts new) ≡ portion_lines (texts taken) ++ lines front.now = ap portion_lines seen ∙ flat_map-append lines (texts taken) (front.now ∷ []) ∙ ap (λ (ls : List (List ℕ)). portion_lines (texts taken) ++ ls) (append-nil (lines front.now)) in
    ap (λ (ls : List (List ℕ)). ls ++ lines after) more ∙ append_assoc (portion_lines (texts taken)) (lines front.now) (lines after) ∙ ap (λ (ls : List (List ℕ)). portion_lines (texts taken) ++ ls) cut ∙ whole

-- the first line of the rest stands behind the lines that were taken, and those of the new rest behind it
pub line_taken : (all front : List (List ℕ)) (rest line after : List ℕ) → 0 < length rest → line ≡ before_first is_feed rest → after ≡ after_first is_feed rest → all ≡ front ++ lines rest → all ≡ (front ++ line ∷ []) ++ lines after
line_taken all front rest line after some line_is after_is whole =
    whole ∙ ap (λ (ls : List (List ℕ)). front ++ ls) (lines-next rest some)
    ∙ ap (λ (l : List ℕ). front ++ l ∷ lines (after_first is_feed rest)) (sym line_is)
    ∙ ap (λ (l : List ℕ). front ++ line ∷ lines l) (sym after_is)
    ∙ sym (append_assoc front (line ∷ []) (lines after))

pub read_counted : (ls : List (List ℕ)) (jobs : List PackedLine) (o : Option Counts) (counts : Counts) → IsReadOf ls jobs o → o ≡ Some counts → AreCounted ls jobs counts
read_counted ls jobs o counts h is = subst (IsReadOf ls jobs) is h

-- a number that all job numbers of the first entries are below is one that all are below, if these entries are all
pub below_all : (next : ℕ) (entries : List LogEntry) (k : ℕ) → length entries ≤ k → Below next (take k entries) → Below next entries
below_all next entries k le below = subst (Below next) (take_all k entries le) below

-- lines that were read as so many job lines lead to the entries to which these job lines lead
pub portion_read : (old new : List LogEntry) (jobs : List PackedLine) (o : Option Counts) (counts : Counts) (result : Option ℕ) → o ≡ Some counts → (m : ℕ) → (counts.jobs ≤ length jobs → m ≡ counts.jobs) → IfSome result (λ later. AddsJobs old (map job_of (take m jobs)) new) → IfSome result (λ later. (ls : List (List ℕ)) → IsReadOf ls jobs o → AddsAll old ls new)
portion_read old new jobs o counts None is m same added = tt
portion_read old new jobs o counts (Some later) is m same added = λ ls h.
    let read = read_counted ls jobs o counts h is in
    portion_added old new ls (map job_of (take counts.jobs jobs)) read.read (subst (λ (k : ℕ). AddsJobs old (map job_of (take k jobs)) new) (same read.within) added)

-- the first portions of those that were read
pub portions_at : (old t new : List LogEntry) (jobs : List JobLines) (k : ℕ) (d : JobLines) → k < length jobs
    → ((ps : List (List ℕ)) → length jobs ≡ length ps → AreRead ps jobs → AddsAll old (portion_lines (take k ps)) t)
    → ((ls : List (List ℕ)) → IsReadOf ls (get_or jobs k d).jobs (get_or jobs k d).count → AddsAll t ls new)
    → (ps : List (List ℕ)) → length jobs ≡ length ps → AreRead ps jobs → AddsAll old (portion_lines (take (k + 1) ps)) new
portions_at old t new jobs k d lt done step ps count read =
    let within : k < length ps = omega (arith, lt, count) in
    portions_next old t new ps k within (done ps count read) (step (lines (get_or ps k [])) (read k d within))

-- all portions that were read
pub portions_all : (old new : List LogEntry) (jobs : List JobLines) (k : ℕ) → length jobs ≤ k
    → ((ps : List (List ℕ)) → length jobs ≡ length ps → AreRead ps jobs → AddsAll old (portion_lines (take k ps)) new)
    → (ls : List (List ℕ)) → AreJobsIn ls jobs → AddsAll old ls new
portions_all old new jobs k le done ls are =
    let all : take k are.portions ≡ are.portions = take_all k are.portions (omega (arith, le, are.count)) in
    subst (λ (l : List (List ℕ)). AddsAll old l new) (ap portion_lines all ∙ are.whole) (done are.portions are.count are.read)

-- the count of the lines of the first portions is that of all lines, if these portions are all
pub counted_all : (jobs : List JobLines) (k n : ℕ) → length jobs ≤ k
    → ((ps : List (List ℕ)) → length jobs ≡ length ps → AreRead ps jobs → n ≡ length (portion_lines (take k ps)))
    → (ls : List (List ℕ)) → AreJobsIn ls jobs → n ≡ length ls
counted_all jobs k n le done ls are =
    let all : take k are.portions ≡ are.portions = take_all k are.portions (omega (arith, le, are.count)) in
    done are.portions are.count are.read ∙ ap length (ap portion_lines all ∙ are.whole)

-- entries are themselves with none behind them
pub extends_none : (old : List LogEntry) → Extends old old
extends_none old = ([], sym (append-nil old))

-- entries with others behind them, and more behind these, are the first ones with others behind them
pub extends_then : (a b c : List LogEntry) → Extends a b → Extends b c → Extends a c
extends_then a b c p q = (p.0 ++ q.0, q.1 ∙ ap (λ (l : List LogEntry). l ++ q.0) p.1 ∙ append_assoc a p.0 q.0)

-- of entries with others behind them, as many first ones as there were are those that were there before
pub cut_back : (old new : List LogEntry) → Extends old new → take (length old) new ≡ old
cut_back old new p = ap (take (length old)) p.1 ∙ take_at old p.0 (length old) refl

-- what is added of the portion at hand
pub portion_behind : (old t new : List LogEntry) (all front ls : List (List ℕ)) (rest : List ℕ) → all ≡ front ++ lines rest → AddsAll old front t → AddsAll t ls new → (after : List ℕ) → ls ++ lines after ≡ lines rest → (all ≡ (front ++ ls) ++ lines after) × AddsAll old (front ++ ls) new
portion_behind old t new all front ls rest whole done added after cut = (whole ∙ ap (λ (l : List (List ℕ)). front ++ l) (sym cut) ∙ sym (append_assoc front ls (lines after)), all_then old t new front ls done added)

pub all_behind : (old t : List LogEntry) (all front : List (List ℕ)) (rest : List ℕ) → all ≡ front ++ lines rest → length rest ≡ 0 → AddsAll old front t → AddsAll old all t
all_behind old t all front [] whole none done = subst (λ (ls : List (List ℕ)). AddsAll old ls t) (sym (whole ∙ append-nil front)) done
all_behind old t all front (b ∷ bs) whole none done = absurd (omega arith)
