-- The front of a log, and what stands behind it: whole lines, a piece that is filled, a front that grows by a piece, and what a log is read
-- as.
use Rattle.std.proofs.Common.{◌≡◌, ℕ, zero, suc, ◌+◌, ◌-◌, ◌<◌, ◌≤◌, List, [], ◌∷◌, ◌++◌, length, get_or, take, drop, Option, Some, None, Result, Ok, Err, refl, sym, ap, subst, ◌∙◌, append_assoc, arith, inl, inr, IfErr, IfOk, Bool, true, false, map}
use Rattle.std.proofs.lemmas.Bool.{eqb-true}
use Rattle.std.proofs.lemmas.List.{append-nil, take_more, take-append-drop, length-append, length-take-le, take-take, drop-append-le, drop_at, take_at, take-append-le}
use Rattle.std.proofs.KnownBytes.{Consumes-trans, Consumes-kept}
use Rattle.std.proofs.Math.Seq.{take-add}
use Rattle.std.specs.Io.{ReadsAtMost}
use Rattle.std.specs.Io.KnownBytes.{Consumes, Keeps, ReadConsumes}
use Rattle.memchr.specs.Find.{IsLastByte, is_byte}
use Rattle.swf_text.specs.declared.fault.SwfFault.{SwfFault}
use Rattle.swf_text.specs.Entry.{LogEntry, field, has_number, is_partial, whole_number}
use Rattle.swf_text.specs.Limits.{entry_limit}
use Rattle.swf_text.specs.Number.{is_below_zero}
use Rattle.std.specs.List.{after_first, list_any}
use Rattle.std.specs.Prelude.{nat_le, if◌then◌else◌, ℤ}
use Rattle.swf_text.specs.declared.fault.FaultKind.TheVariants as kinds
use Rattle.swf_text.specs.Grammar.{HasReached, IsText}
use Rattle.swf_text.specs.Log.{IsLog}
use Rattle.swf_text.specs.Text.{LogText, empty, is_feed, lines}
use Rattle.swf_text.specs.Reading.{with_job, with_lines, with_numbered, text_of, Gives}
use Rattle.swf_text.proofs.Lemmas.{gives_text, gives_only, gives_fault, gives_comments, after-shorter, lines-next, text_read, text_sound}
use Rattle.parallel_reader.specs.Adding.{CanReach}
use Rattle.parallel_reader.specs.declared.portion.JobLines.{JobLines}
use Rattle.parallel_reader.specs.Fronts.{AreJobsIn, EndsLine, Fills, PieceView, Progress, IsFront, IsReadBehind, IsReading}
use Rattle.parallel_reader.specs.Jobs.{AddsAll}
use Rattle.parallel_reader.proofs.Adding.{lines_after, lines_some, none_added, reached_so, reached_first}
use Rattle.parallel_reader.proofs.Jobs.{cut_lines}

-- the lines of whole lines, and those of what follows, are the lines of both
pub lines_whole : (front rest : List ℕ) → EndsLine front → lines (front ++ rest) ≡ lines front ++ lines rest
lines_whole front rest (inl none) = ap (λ (f : List ℕ). lines (f ++ rest)) none ∙ sym (ap (λ (f : List ℕ). lines f ++ lines rest) none)
lines_whole front rest (inr p) =
    ap (λ (f : List ℕ). lines (f ++ rest)) p.1 ∙ ap lines (append_assoc p.0 (10 ∷ []) rest) ∙ sym (cut_lines p.0 rest) ∙ sym (ap (λ (f : List ℕ). lines f ++ lines rest) p.1)

pub ends_more : (a b : List ℕ) → EndsLine a → EndsLine b → EndsLine (a ++ b)
ends_more a b ends (inl none) = subst EndsLine (sym (ap (λ (l : List ℕ). a ++ l) none ∙ append-nil a)) ends
ends_more a b ends (inr p) = inr (a ++ p.0, ap (λ (l : List ℕ). a ++ l) p.1 ∙ sym (append_assoc a p.0 (10 ∷ [])))

pub ends_at : (bytes : List ℕ) (last : ℕ) → IsLastByte (is_byte 10) bytes (Some last) → EndsLine (take (last + 1) bytes)
ends_at bytes last h = inr (take last bytes, take_more bytes last 0 h.0.high ∙ ap (λ (b : ℕ). take last bytes ++ b ∷ []) (eqb-true (get_or bytes last 0) 10 h.1))

few : (n : ℕ) (xs : List ℕ) → length xs ≤ n → length (lines xs) ≤ length xs
few n [] le = omega arith
few zero (b ∷ bs) le = absurd (omega arith)
few (suc n) (b ∷ bs) le =
    let some : 0 < length (b ∷ bs) = omega arith in
    let shorter = after-shorter (b ∷ bs) some in
    let rest = few n (after_first is_feed (b ∷ bs)) (omega (arith, shorter, le)) in
    omega (arith, ap length (lines-next (b ∷ bs) some), rest, shorter)

-- there are no more lines than bytes
pub lines_few : (xs : List ℕ) → length (lines xs) ≤ length xs
lines_few xs = few (length xs) xs (omega arith)

-- what was read into a part of a buffer stands behind its front
pub read_in_place : {E : Type 0} (a b : Option (List ℕ)) (r : Result ℕ E) (front part rest : List ℕ) (at : ℕ) → length front ≡ at → ReadsAtMost r part → ReadConsumes a b r part → IfOk r (λ n. Consumes a b (take n (drop at (front ++ (part ++ rest)))))
read_in_place a b (Ok n) front part rest at long fits read = subst (Consumes a b) (sym (ap (take n) (drop_at front (part ++ rest) at long) ∙ take-append-le n part rest fits.0)) read.0
read_in_place a b (Err e) front part rest at long fits read = tt

-- what is in a piece: the whole lines, and what follows them
pub filled_so : (bytes front more : List ℕ) (filled whole : ℕ) → take filled bytes ≡ front ++ more → whole ≤ filled → take whole bytes ++ take (filled - whole) (drop whole bytes) ≡ front ++ more
filled_so bytes front more filled whole is within =
    let sum : whole + (filled - whole) ≡ filled = omega arith in
    sym (take-add whole (filled - whole) bytes) ∙ ap (λ (n : ℕ). take n bytes) sum ∙ is

-- where a read failed, a buffer holds what was given before
pub filled_same : (a b c : Option (List ℕ)) (old new : List ℕ) (at filled : ℕ) → take filled new ≡ take filled old → Consumes a b (drop at (take filled old)) → Keeps b c → Consumes a c (drop at (take filled new))
filled_same a b c old new at filled is given kept = subst (λ (l : List ℕ). Consumes a c (drop at l)) (sym is) (Consumes-kept a b c (drop at (take filled old)) given kept)

pub put_before : (bytes front : List ℕ) (at filled : ℕ) → take at bytes ≡ front → at ≤ filled → take filled bytes ≡ front ++ drop at (take filled bytes)
put_before bytes front at filled is low = sym (take-append-drop at (take filled bytes)) ∙ ap (λ (l : List ℕ). l ++ drop at (take filled bytes)) (take-take at filled bytes low ∙ is)

-- a buffer that is the same up to a place is the same up to each place before it
pub front_kept : (old new : List ℕ) (at filled : ℕ) → at ≤ filled → take filled new ≡ take filled old → take at new ≡ take at old
front_kept old new at filled low is = sym (take-take at filled new low) ∙ ap (take at) is ∙ take-take at filled old low

-- a buffer that was filled up to a place, and further
pub filled_on : (a b c : Option (List ℕ)) (old new : List ℕ) (at filled n : ℕ) → at ≤ filled → filled ≤ length new → take filled new ≡ take filled old → Consumes a b (drop at (take filled old)) → Consumes b c (take n (drop filled new)) → Consumes a c (drop at (take (filled + n) new))
filled_on a b c old new at filled n low within is first second =
    let more : drop at (take (filled + n) new) ≡ drop at (take filled old) ++ take n (drop filled new) =
    ap (drop at) (take-add filled n new) ∙ drop-append-le at (take filled new) (take n (drop filled new)) (omega (arith, length-take-le filled new within)) ∙ ap (λ (l : List ℕ). drop at l ++ take n (drop filled new)) is in
    subst (Consumes a c) (sym more) (Consumes-trans a b c (drop at (take filled old)) (take n (drop filled new)) first second)

-- a buffer that was filled from a place on has the bytes before the place, and behind them what the reader gave
pub given_before : {E : Type 0} (a b : Option (List ℕ)) (bytes front : List ℕ) (at : ℕ) (r : Result ℕ E) → IfOk r (λ filled. at ≤ filled) → IfOk r (λ filled. Consumes a b (drop at (take filled bytes))) → take at bytes ≡ front → IfOk r (λ filled. (more : List ℕ) × Consumes a b more × (take filled bytes ≡ front ++ more))
given_before a b bytes front at (Ok filled) low given is = (drop at (take filled bytes), given, put_before bytes front at filled is low)
given_before a b bytes front at (Err e) low given is = tt

-- a vector whose slice was written
pub whole_slice : (len : ℕ) (bytes rest : List ℕ) → length bytes ≡ len → take len (bytes ++ rest) ≡ bytes
whole_slice len bytes rest is = ap (λ (n : ℕ). take n (bytes ++ rest)) (sym is) ∙ take_at bytes rest (length bytes) refl

-- lines behind a front
pub front_more : (front more : List ℕ) (p q : Progress) (count size : ℕ) → IsFront front p → EndsLine more → AddsAll p.text.entries (lines more) q.text.entries → count ≡ length (lines more) → size ≡ length more → q.text.comments ≡ p.text.comments → q.lines ≡ p.lines + count → q.bytes ≡ p.bytes + size → IsFront (front ++ more) q
front_more front more p q count size is ends added counted sized comments lines_are bytes_are =
    let whole : lines (front ++ more) ≡ lines front ++ lines more = lines_whole front more is.whole in
    record {
      whole = ends_more front more is.whole ends;
      read =
          ap (with_lines 1 empty) whole ∙ lines_after 1 empty p.text (lines front) (lines more) is.read ∙ added (1 + length (lines front)) p.text.comments
          ∙ ap (λ (cs : List (List ℕ)). Ok (record { comments = cs; entries = q.text.entries })) (sym comments);
      counted = omega (arith, lines_are, is.counted, counted, ap length whole, length-append (lines front) (lines more));
      size = omega (arith, bytes_are, is.size, sized, length-append front more);
    }

-- a front, and the first piece behind it
pub begun_so : (head tail ready lines_read behind : List ℕ) (old new : Option (List ℕ)) (p : Progress) → IsFront head p → ready ≡ [] → (more : List ℕ) → Consumes old new more → lines_read ++ behind ≡ tail ++ more → IsReadBehind (head ++ tail) old new p (ready ++ (lines_read ++ behind))
begun_so head tail ready lines_read behind old new p is none more given filled = record {
  front = head;
  is_front = is;
  more = more;
  given = given;
  whole = append_assoc head tail more ∙ ap (λ (l : List ℕ). head ++ l) (sym filled ∙ sym (ap (λ (l : List ℕ). l ++ (lines_read ++ behind)) none));
}

-- no lines, and no job lines
pub no_jobs_in : (bytes : List ℕ) (jobs : List JobLines) → bytes ≡ [] → jobs ≡ [] → AreJobsIn (lines bytes) jobs
no_jobs_in bytes jobs none empty_jobs = record {
  portions = [];
  whole = ap lines (sym none);
  count = ap length empty_jobs;
  read = λ place d lt. absurd (omega arith);
}

-- what follows of a value from two properties holds of a value that is returned, if both do
pub ok_by : {X E : Type 0} (P Q S : X → Type 0) (r : Result X E) → ((x : X) → P x → Q x → S x) → IfOk r P → IfOk r Q → IfOk r S
ok_by P Q S (Ok x) step p q = step x p q
ok_by P Q S (Err e) step p q = tt

pub moved : (had a b : List ℕ) (old new : Option (List ℕ)) (p q : Progress) → IsReadBehind had old new p (a ++ b) → ((front : List ℕ) → IsFront front p → IsFront (front ++ a) q) → IsReadBehind had old new q b
moved had a b old new p q is grows = record {
  front = is.front ++ a;
  is_front = grows is.front is.is_front;
  more = is.more;
  given = is.given;
  whole = is.whole ∙ sym (append_assoc is.front a b);
}

pub read_more : (had a b c more : List ℕ) (old mid new : Option (List ℕ)) (p : Progress) → IsReadBehind had old mid p (a ++ b) → Consumes mid new more → c ≡ b ++ more → IsReadBehind had old new p (a ++ c)
read_more had a b c more old mid new p is given behind = record {
  front = is.front;
  is_front = is.is_front;
  more = is.more ++ more;
  given = Consumes-trans old mid new is.more more is.given given;
  whole =
      sym (append_assoc had is.more more) ∙ ap (λ (l : List ℕ). l ++ more) is.whole ∙ append_assoc is.front (a ++ b) more
      ∙ ap (λ (l : List ℕ). is.front ++ l) (append_assoc a b more ∙ ap (λ (l : List ℕ). a ++ l) (sym behind));
}

-- what was read behind a front, by an equal progress and an equal rest
pub returned : (had unread rest : List ℕ) (old new : Option (List ℕ)) (p q : Progress) → IsReadBehind had old new p unread → q ≡ p → rest ≡ unread → IsReadBehind had old new q rest
returned had unread rest old new p q is same_front same_rest =
    subst (λ (x : Progress). IsReadBehind had old new x rest) (sym same_front) (subst (IsReadBehind had old new p) (sym same_rest) is)

-- a piece was added, what follows the next one stands in its place, and more was read behind that
pub turned : (had : List ℕ) (ready coming x y : PieceView) (old mid new : Option (List ℕ)) (p q : Progress) → IsReadBehind had old mid p (ready.lines ++ (coming.lines ++ coming.tail)) → ((front : List ℕ) → IsFront front p → IsFront (front ++ ready.lines) q) → Fills mid new coming.tail y → x.lines ≡ coming.lines → IsReadBehind had old new q (x.lines ++ (y.lines ++ y.tail))
turned had ready coming x y old mid new p q behind grows f same =
    returned had (coming.lines ++ (y.lines ++ y.tail)) (x.lines ++ (y.lines ++ y.tail)) old new q q
    (read_more had coming.lines coming.tail (y.lines ++ y.tail) f.0 old mid new q (moved had ready.lines (coming.lines ++ coming.tail) old mid p q behind grows) f.1 f.2)
    refl (ap (λ (l : List ℕ). l ++ (y.lines ++ y.tail)) same)

-- what was had, was read before
pub read_whole : (had first rest : List ℕ) (old mid new : Option (List ℕ)) (p : Progress) → Consumes old mid first → had ≡ first → IsReadBehind had mid new p rest → IsReadBehind [] old new p rest
read_whole had first rest old mid new p given same is = record {
  front = is.front;
  is_front = is.is_front;
  more = first ++ is.more;
  given = Consumes-trans old mid new first is.more given is.given;
  whole = ap (λ (l : List ℕ). l ++ is.more) (sym same) ∙ is.whole;
}

-- nothing of what was read is a front
pub read_none : (first rest : List ℕ) (old new : Option (List ℕ)) (p : Progress) → IsFront [] p → Consumes old new first → rest ≡ first → IsReadBehind [] old new p rest
read_none first rest old new p is given same = record { front = []; is_front = is; more = first; given = given; whole = sym same }

-- what follows of a value from a property holds of a value that is returned, if the property does
pub ok_map : {X E : Type 0} (P S : X → Type 0) (r : Result X E) → ((x : X) → P x → S x) → IfOk r P → IfOk r S
ok_map P S (Ok x) step p = step x p
ok_map P S (Err e) step p = tt

pub reading_of : (log : List ℕ) (result : Result LogText SwfFault) → Gives result (text_of log) → IfErr result (λ f. HasReached (lines log) f.line) → IsReading log result
reading_of log result gives reached = record {
  text = gives_text result (lines log) gives;
  only = gives_only result (lines log) gives;
  fault = gives_fault result (lines log) gives;
  reached = reached;
  comments = gives_comments log result (gives_text result (lines log) gives);
}

pub log_of_text : (log : List ℕ) (text : LogText) → text_of log ≡ Ok text → IsLog text.entries
log_of_text log text read = (text_sound log text (gives_text (Ok text) (lines log) read)).log

pub behind_front : (front bytes : List ℕ) (p : Progress) → IsFront front p → text_of (front ++ bytes) ≡ with_lines (p.lines + 1) p.text (lines bytes)
behind_front front bytes p is =
    let place : 1 + length (lines front) ≡ p.lines + 1 = omega (arith, is.counted) in
    ap (with_lines 1 empty) (lines_whole front bytes is.whole) ∙ lines_after 1 empty p.text (lines front) (lines bytes) is.read ∙ ap (λ (n : ℕ). with_lines n p.text (lines bytes)) place

reached_all : (front bytes : List ℕ) (p : Progress) (r : Result LogText SwfFault) → IsFront front p → IfErr r (λ f. CanReach (p.lines + 1) p.text (lines bytes) f.line) → IfErr r (λ f. HasReached (lines (front ++ bytes)) f.line)
reached_all front bytes p (Ok t) is can = tt
reached_all front bytes p (Err f) is can =
    subst (λ (ls : List (List ℕ)). HasReached ls f.line) (sym (lines_whole front bytes is.whole)) (reached_so (lines front) (lines bytes) p.text p.lines f.line is.read is.counted can)

-- no front, and a log that is read in one
pub one_reading : (front bytes : List ℕ) (p : Progress) (r : Result LogText SwfFault) → IsFront front p → p.bytes ≡ 0 → IsReading bytes r → IsReading (front ++ bytes) r
one_reading [] bytes p r is none reading = reading
one_reading (b ∷ bs) bytes p r is none reading = absurd (omega (arith, is.size, none))

pub rising_read : (front bytes : List ℕ) (p : Progress) (entries : List LogEntry) → IsFront front p → AddsAll p.text.entries (lines bytes) entries → text_of (front ++ bytes) ≡ Ok (record { comments = p.text.comments; entries = entries })
rising_read front bytes p entries is added = behind_front front bytes p is ∙ added (p.lines + 1) p.text.comments

-- the entries of a front with those that lines behind it add are those of a log
pub rising_log : (front bytes : List ℕ) (p : Progress) (entries : List LogEntry) → IsFront front p → AddsAll p.text.entries (lines bytes) entries → IsLog entries
rising_log front bytes p entries is added = log_of_text (front ++ bytes) (record { comments = p.text.comments; entries = entries }) (rising_read front bytes p entries is added)

-- a text is the record of its comments and its entries
pub same_text : (r : LogText) (comments : List (List ℕ)) (entries : List LogEntry) → r.comments ≡ comments → r.entries ≡ entries → record { comments = comments; entries = entries } ≡ r
same_text r comments entries p q = ap (with_comments entries) (sym p) ∙ ap (with_entries r.comments) (sym q)
  where
    with_comments : List LogEntry → List (List ℕ) → LogText
    with_comments es cs = record { comments = cs; entries = es }

    with_entries : List (List ℕ) → List LogEntry → LogText
    with_entries cs es = record { comments = cs; entries = es }

-- a log is read as the comments of its front and the entries that the lines behind it lead to
pub rising_reading : (front bytes : List ℕ) (p : Progress) (r : LogText) (entries : List LogEntry) → IsFront front p → AddsAll p.text.entries (lines bytes) entries → r.comments ≡ p.text.comments → r.entries ≡ entries → IsReading (front ++ bytes) (Ok r)
rising_reading front bytes p r entries is added comments those =
    reading_of (front ++ bytes) (Ok r) (rising_read front bytes p entries is added ∙ ap Ok (same_text r p.text.comments entries comments those)) tt

-- any lines behind a front
pub batches_reading : (front bytes : List ℕ) (p : Progress) (t : LogText) (r : Result LogText SwfFault) → IsFront front p → t ≡ p.text → Gives r (with_lines (p.lines + 1) t (lines bytes)) → IfErr r (λ f. CanReach (p.lines + 1) t (lines bytes) f.line) → IsReading (front ++ bytes) r
batches_reading front bytes p t r is same gives can =
    let over = subst (λ (u : LogText). Gives r (with_lines (p.lines + 1) u (lines bytes))) same gives in
    let reach = subst (λ (u : LogText). IfErr r (λ f. CanReach (p.lines + 1) u (lines bytes) f.line)) same can in
    reading_of (front ++ bytes) r (subst (Gives r) (sym (behind_front front bytes p is)) over) (reached_all front bytes p r is reach)

-- memory ran out before a line was added
pub memory_reading : (front bytes : List ℕ) → 0 < length bytes → IsReading (front ++ bytes) (Err (record { line = 1; kind = kinds.Memory }))
memory_reading front bytes some =
    let all : List ℕ = front ++ bytes in
    let filled : 0 < length (lines all) = lines_some all (omega (arith, some, length-append front bytes)) in
    reading_of all (Err (record { line = 1; kind = kinds.Memory })) tt (reached_so [] (lines all) empty 0 1 (none_added 1 empty) refl (reached_first 1 empty (lines all) filled))

-- a summary line adds an entry, if it adds anything
pub job_adds : (t u : LogText) (job : List ℤ) → is_partial (field job 11) ≡ false → with_job t job ≡ Ok u → u ≡ record t { entries = t.entries ++ record { main = job; parts = [] } ∷ [] }
job_adds t u job summary h = go (whole_number (field job 1)) h
  where
    last : (late : Bool) → (if late then Err kinds.TooManyJobs else Ok (record t { entries = t.entries ++ record { main = job; parts = [] } ∷ [] })) ≡ Ok u → u ≡ record t { entries = t.entries ++ record { main = job; parts = [] } ∷ [] }
    last true e = absurd cc
    last false e = cc

    third : (number : ℕ) (b : Bool) → (if b then Err kinds.DuplicateJob else (if nat_le entry_limit (length t.entries) then Err kinds.TooManyJobs else Ok (record t { entries = t.entries ++ record { main = job; parts = [] } ∷ [] }))) ≡ Ok u → u ≡ record t { entries = t.entries ++ record { main = job; parts = [] } ∷ [] }
    third number true e = absurd cc
    third number false e = last (nat_le entry_limit (length t.entries)) e

    second : (number : ℕ) (b : Bool) → (if b then Err kinds.BadSubmit else (if list_any (has_number number) t.entries then Err kinds.DuplicateJob else (if nat_le entry_limit (length t.entries) then Err kinds.TooManyJobs else Ok (record t { entries = t.entries ++ record { main = job; parts = [] } ∷ [] })))) ≡ Ok u → u ≡ record t { entries = t.entries ++ record { main = job; parts = [] } ∷ [] }
    second number true e = absurd cc
    second number false e = third number (list_any (has_number number) t.entries) e

    go : (o : Option ℕ) → with_numbered t job o ≡ Ok u → u ≡ record t { entries = t.entries ++ record { main = job; parts = [] } ∷ [] }
    go None e = absurd cc
    go (Some number) e = second number (is_below_zero (field job 2)) (sym (rw summary refl) ∙ e)

-- a result holds one text
pub one_text : (r : Result LogText SwfFault) (t u : LogText) → r ≡ Ok t → r ≡ Ok u → t ≡ u
one_text r t u p q = cc

-- the entry of a summary line, which has no partial ones
pub whole_entry : (entry : LogEntry) (main : List ℤ) → main ≡ entry.main → entry.parts ≡ [] → record { main = main; parts = [] } ≡ entry
whole_entry entry main same none = ap (made []) same ∙ ap (λ (ps : List (List ℤ)). made ps entry.main) (sym none)
  where
    made : List (List ℤ) → List ℤ → LogEntry
    made ps m = record { main = m; parts = ps }

-- a list that was made of an empty one is empty
pub no_parts : {X : Type 0} (f : X → List ℤ) (xs : List X) (parts : List (List ℤ)) → map f xs ≡ parts → length xs ≡ 0 → parts ≡ []
no_parts f [] parts same none = sym same
no_parts f (x ∷ xs) parts same none = absurd (omega arith)

-- an entry more
pub entries_next : (front items : List LogEntry) (k : ℕ) (x y : LogEntry) → k < length items → x ≡ get_or items k x → y ≡ x → (front ++ take k items) ++ y ∷ [] ≡ front ++ take (k + 1) items
entries_next front items k x y lt is same =
    append_assoc front (take k items) (y ∷ []) ∙ ap (λ (l : List LogEntry). front ++ l) (ap (λ (e : LogEntry). take k items ++ e ∷ []) (same ∙ is) ∙ sym (take_more items k x lt))

-- no bytes are read as the empty text
pub no_text : text_of [] ≡ Ok empty
no_text = none_added 1 empty

-- no bytes are a front that has no comments, no entries, no lines and no bytes
pub front_none : (q : Progress) → q.text.comments ≡ [] → q.text.entries ≡ [] → q.lines ≡ 0 → q.bytes ≡ 0 → IsFront [] q
front_none q comments entries counted size = record { whole = inl refl; read = no_text ∙ ap Ok (same_text q.text [] [] comments entries); counted = counted; size = size }

-- bytes whose lines are a text are read as the comments and entries of the text
pub head_text : (head : List ℕ) (text : LogText) (comments : List (List ℕ)) (entries : List LogEntry) → IsText (lines head) text → comments ≡ text.comments → entries ≡ text.entries → text_of head ≡ Ok (record { comments = comments; entries = entries })
head_text head text comments entries is same those = text_read 1 empty (lines head) text is ∙ ap Ok (same_text (record { comments = comments; entries = entries }) text.comments text.entries same those)

-- whole lines that are a text are a front, with the comments and entries of the text and as many lines and bytes as they have
pub front_read : (head : List ℕ) (text : LogText) (q : Progress) → EndsLine head → IsText (lines head) text → q.text.comments ≡ text.comments → q.text.entries ≡ text.entries → q.lines ≡ length (lines head) → q.bytes ≡ length head → IsFront head q
front_read head text q ends is comments entries counted size = record {
  whole = ends;
  read = head_text head text q.text.comments q.text.entries is comments entries;
  counted = counted;
  size = size;
}

-- a front of known bytes, and what stands behind it
pub split_front : (bytes : List ℕ) (new : Option (List ℕ)) (p : Progress) (rest : List ℕ) (is : IsReadBehind [] (Some bytes) new p rest) → (is.front ++ drop p.bytes bytes ≡ bytes) × (p.bytes ≤ length bytes)
split_front bytes new p rest is = go new is.given where
  go : (n : Option (List ℕ)) → Consumes (Some bytes) n is.more → (is.front ++ drop p.bytes bytes ≡ bytes) × (p.bytes ≤ length bytes)
  go None given = absurd given
  go (Some ys) given =
      let all : bytes ≡ is.front ++ (rest ++ ys) = given ∙ ap (λ (l : List ℕ). l ++ ys) is.whole ∙ append_assoc is.front rest ys in
      let behind : drop p.bytes bytes ≡ rest ++ ys = ap (drop p.bytes) all ∙ drop_at is.front (rest ++ ys) p.bytes (sym is.is_front.size) in (
        ap (λ (l : List ℕ). is.front ++ l) behind ∙ sym all,
        omega (arith, is.is_front.size, ap length all, length-append is.front (rest ++ ys)),
      )
