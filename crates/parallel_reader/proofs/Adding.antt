-- Lines that are added to a text which others led to: line after line of a batch, and batch after batch.
use Rattle.std.proofs.Common.{◌≡◌, ℕ, zero, suc, ◌+◌, ◌-◌, ◌*◌, ◌<◌, ◌≤◌, List, [], ◌∷◌, ◌++◌, length, get_or, take, drop, Result, Ok, Err, refl, sym, ap, subst, ◌∙◌, append_assoc, arith}
use Rattle.std.proofs.lemmas.List.{take_more, take-append-drop, length-take-le, length-drop, get_or-map, length-append, length-map, map-append}
use Rattle.std.specs.List.{before_first, after_first}
use Rattle.std.proofs.Math.Seq.{take-append_seam}
use Rattle.std.specs.Prelude.{IsErrAnd}
use denote.Ref.{Bor}
use Rattle.swf_text.specs.declared.fault.FaultKind.{FaultKind}
use Rattle.swf_text.specs.declared.fault.FaultKind.TheVariants as kinds
use Rattle.swf_text.specs.declared.fault.SwfFault.{SwfFault}
use Rattle.swf_text.specs.declared.line.LineRead.{LineRead}
use Rattle.swf_text.specs.Line.{line_of}
use Rattle.swf_text.specs.Grammar.{HasReached}
use Rattle.swf_text.specs.Text.{LogText, empty, lines, is_feed}
use Rattle.swf_text.specs.Reading.{with_line, with_lines, with_read, at_line, Fails, FailsAt}
use Rattle.swf_text.proofs.Lemmas.{with_lines-append, lines_fault, reached, lines-next, at_end}
use Rattle.parallel_reader.specs.Adding.{texts, read_texts, CanReach, AddsLines}

-- what others add behind lines
pub lines_after : (number : ℕ) (t u : LogText) (xs ys : List (List ℕ)) → with_lines number t xs ≡ Ok u → with_lines number t (xs ++ ys) ≡ with_lines (number + length xs) u ys
unfolding with_lines
lines_after number t u [] ys h =
    let same : t ≡ u = cc in
    let place : number ≡ number + 0 = omega arith in
    ap (λ (n : ℕ). with_lines n t ys) place ∙ ap (λ (v : LogText). with_lines (number + 0) v ys) same
lines_after number t u (x ∷ xs) ys h = after_first (with_line t x) refl (λ v e. lines_after (number + 1) v u xs ys e)
  where
    after_first : (r : Result LogText FaultKind) → with_line t x ≡ r → ((v : LogText) → with_lines (number + 1) v xs ≡ Ok u → with_lines (number + 1) v (xs ++ ys) ≡ with_lines (number + 1 + length xs) u ys) → with_lines number t (x ∷ xs ++ ys) ≡ with_lines (number + length (x ∷ xs)) u ys
    after_first (Err kind) e later = let bad = sym (ap (λ (r : Result LogText FaultKind). at_line number r (λ v. with_lines (number + 1) v xs)) e) ∙ h in absurd cc
    after_first (Ok v) e later =
        let rest = sym (ap (λ (r : Result LogText FaultKind). at_line number r (λ w. with_lines (number + 1) w xs)) e) ∙ h in
        let place : number + 1 + length xs ≡ number + length (x ∷ xs) = omega arith in
        ap (λ (r : Result LogText FaultKind). at_line number r (λ w. with_lines (number + 1) w (xs ++ ys))) e ∙ later v rest ∙ ap (λ (n : ℕ). with_lines n u ys) place

pub lines_refused : (number : ℕ) (t : LogText) (fault : SwfFault) (xs ys : List (List ℕ)) → with_lines number t xs ≡ Err fault → with_lines number t (xs ++ ys) ≡ Err fault
unfolding with_lines
lines_refused number t fault [] ys h = absurd cc
lines_refused number t fault (x ∷ xs) ys h = refused_first (with_line t x) refl (λ v e. lines_refused (number + 1) v fault xs ys e)
  where
    refused_first : (r : Result LogText FaultKind) → with_line t x ≡ r → ((v : LogText) → with_lines (number + 1) v xs ≡ Err fault → with_lines (number + 1) v (xs ++ ys) ≡ Err fault) → with_lines number t (x ∷ xs ++ ys) ≡ Err fault
    refused_first (Err kind) e later =
        ap (λ (r : Result LogText FaultKind). at_line number r (λ w. with_lines (number + 1) w (xs ++ ys))) e
        ∙ sym (ap (λ (r : Result LogText FaultKind). at_line number r (λ v. with_lines (number + 1) v xs)) e)
        ∙ h
    refused_first (Ok v) e later =
        let rest = sym (ap (λ (r : Result LogText FaultKind). at_line number r (λ w. with_lines (number + 1) w xs)) e) ∙ h in
        ap (λ (r : Result LogText FaultKind). at_line number r (λ w. with_lines (number + 1) w (xs ++ ys))) e ∙ later v rest

pub fails_more : (kind : FaultKind) (line number : ℕ) (t : LogText) (xs ys : List (List ℕ)) → FailsAt kind line (with_lines number t xs) → FailsAt kind line (with_lines number t (xs ++ ys))
fails_more kinds.Memory line number t xs ys h = tt
fails_more kinds.LineTooLong line number t xs ys h = lines_refused number t _ xs ys h
fails_more kinds.NotAscii line number t xs ys h = lines_refused number t _ xs ys h
fails_more kinds.FieldCount line number t xs ys h = lines_refused number t _ xs ys h
fails_more (kinds.BadNumber place) line number t xs ys h = lines_refused number t _ xs ys h
fails_more kinds.BadJobNumber line number t xs ys h = lines_refused number t _ xs ys h
fails_more kinds.BadSubmit line number t xs ys h = lines_refused number t _ xs ys h
fails_more kinds.OrphanPartial line number t xs ys h = lines_refused number t _ xs ys h
fails_more kinds.DuplicateJob line number t xs ys h = lines_refused number t _ xs ys h
fails_more kinds.TooManyJobs line number t xs ys h = lines_refused number t _ xs ys h

-- a line and its reading, by their place
pub step_at : (t : LogText) (ls : List (Bor (List ℕ))) (readings : List LineRead) (k : ℕ) (d : Bor (List ℕ)) (read : LineRead) → k < length ls → readings ≡ read_texts ls → read ≡ get_or readings k read → with_read t (get_or ls k d).now read ≡ with_line t (get_or (texts ls) k [])
unfolding with_line
step_at t ls readings k d read lt are read_is =
    let there : get_or (texts ls) k [] ≡ (get_or ls k d).now = get_or-map (λ (l : Bor (List ℕ)). l.now) ls k d [] lt in
    let known : read ≡ line_of (get_or ls k d).now = read_is ∙ ap (λ (rs : List LineRead). get_or rs k read) are ∙ get_or-map (λ (l : Bor (List ℕ)). line_of l.now) ls k d read lt in
    ap (with_read t (get_or ls k d).now) known ∙ ap (with_line t) (sym there)

-- the line behind those that were added
pub line_added : (first : ℕ) (old t next : LogText) (ls : List (List ℕ)) (k : ℕ) → k < length ls → with_lines first old (take k ls) ≡ Ok t → with_line t (get_or ls k []) ≡ Ok next → with_lines first old (take (k + 1) ls) ≡ Ok next
line_added first old t next ls k lt done is = ap (with_lines first old) (take_more ls k [] lt) ∙ with_lines-append first old t (take k ls) (get_or ls k []) next done is

-- the line behind those that were added has a fault
pub line_refused : (kind : FaultKind) (first : ℕ) (old t : LogText) (ls : List (List ℕ)) (k : ℕ) → k < length ls → with_lines first old (take k ls) ≡ Ok t → Fails kind (with_line t (get_or ls k [])) → FailsAt kind (first + k) (with_lines first old ls) × CanReach first old ls (first + k)
line_refused kind first old t ls k lt done fails =
    let whole : take k ls ++ drop k ls ≡ ls = take-append-drop k ls in
    let count : length (take k ls) ≡ k = length-take-le k ls (omega arith) in
    let behind : with_lines first old ls ≡ with_lines (first + k) t (drop k ls) =
    ap (with_lines first old) (sym whole) ∙ lines_after first old t (take k ls) (drop k ls) done ∙ ap (λ (n : ℕ). with_lines (first + n) t (drop k ls)) count in (
      subst (FailsAt kind (first + k)) (sym behind) (lines_fault kind (first + k) t ls k lt fails),
      record {
        front = take k ls;
        behind = drop k ls;
        before = t;
        whole = sym whole;
        some = omega (arith, length-drop k ls);
        place = ap (λ (n : ℕ). first + n) (sym count);
        added = done;
      },
    )

module _ (first : ℕ) (old : LogText) (all front rest : List (List ℕ)) (t : LogText) (line : ℕ) (whole : all ≡ front ++ rest) (place : line ≡ first + length front) (done : with_lines first old front ≡ Ok t) where
  -- what is left to be read behind the lines that were added
  pub left_over : with_lines first old all ≡ with_lines line t rest
  left_over = ap (with_lines first old) whole ∙ lines_after first old t front rest done ∙ ap (λ (n : ℕ). with_lines n t rest) (sym place)

  reached_behind : (number : ℕ) → CanReach line t rest number → CanReach first old all number
  reached_behind number can = record {
    front = front ++ can.front;
    behind = can.behind;
    before = can.before;
    whole = whole ∙ ap (λ (ls : List (List ℕ)). front ++ ls) can.whole ∙ sym (append_assoc front can.front can.behind);
    some = can.some;
    place = omega (arith, length-append front can.front, can.place, place);
    added = lines_after first old t front can.front done ∙ ap (λ (n : ℕ). with_lines n t can.front) (sym place) ∙ can.added;
  }

  module _ (batch others : List (List ℕ)) (split : rest ≡ batch ++ others) where
    -- a fault in the batch is one of all lines
    pub batch_refused : (fault : SwfFault) → FailsAt fault.kind fault.line (with_lines line t batch) → FailsAt fault.kind fault.line (with_lines first old all)
    batch_refused fault fails =
        let behind : with_lines first old all ≡ with_lines line t (batch ++ others) = left_over ∙ ap (with_lines line t) split in
        subst (FailsAt fault.kind fault.line) (sym behind) (fails_more fault.kind fault.line line t batch others fails)

    -- a line of the batch that can be reached behind these is one of all lines that can be
    pub batch_reached : (number : ℕ) → CanReach line t batch number → CanReach first old all number
    batch_reached number can =
        reached_behind number
        (record {
          front = can.front;
          behind = can.behind ++ others;
          before = can.before;
          whole = split ∙ ap (λ (ls : List (List ℕ)). ls ++ others) can.whole ∙ append_assoc can.front can.behind others;
          some = omega (arith, can.some, length-append can.behind others);
          place = can.place;
          added = can.added;
        })

    -- the batch was added behind those that were
    pub batch_added : (u : LogText) → with_lines line t batch ≡ Ok u → with_lines first old (front ++ batch) ≡ Ok u
    batch_added u is = lines_after first old t front batch done ∙ ap (λ (n : ℕ). with_lines n t batch) (sym place) ∙ is

    -- all lines are those added, with the batch, and others behind it
    pub batch_split : all ≡ (front ++ batch) ++ others
    batch_split = whole ∙ ap (λ (ls : List (List ℕ)). front ++ ls) split ∙ sym (append_assoc front batch others)

-- the first line can be reached
pub reached_first : (first : ℕ) (old : LogText) (all : List (List ℕ)) → 0 < length all → CanReach first old all first
unfolding with_lines
reached_first first old all some = record { front = []; behind = all; before = old; whole = refl; some = some; place = omega arith; added = refl }

-- a line that can be reached behind the first lines of a log was reached
pub reached_so : (before ls : List (List ℕ)) (t : LogText) (count line : ℕ) → with_lines 1 empty before ≡ Ok t → count ≡ length before → CanReach (count + 1) t ls line → HasReached (before ++ ls) line
reached_so before ls t count line done counted can =
    let all : List (List ℕ) = before ++ ls in
    let split : all ≡ (before ++ can.front) ++ can.behind = ap (λ (l : List (List ℕ)). before ++ l) can.whole ∙ sym (append_assoc before can.front can.behind) in
    let length_is : length (before ++ can.front) ≡ line - 1 = omega (arith, length-append before can.front, can.place, counted) in
    let fronts : take (line - 1) all ≡ before ++ can.front = ap (λ (n : ℕ). take n all) (sym length_is) ∙ ap (take (length (before ++ can.front))) split ∙ take-append_seam (before ++ can.front) can.behind in
    let place : count + 1 ≡ 1 + length before = omega (arith, counted) in
    let read : with_lines 1 empty (before ++ can.front) ≡ Ok can.before = lines_after 1 empty t before can.front done ∙ ap (λ (n : ℕ). with_lines n t can.front) (sym place) ∙ can.added in
    let sizes : length all ≡ length before + length can.front + length can.behind = omega (arith, ap length split, length-append (before ++ can.front) can.behind, length-append before can.front) in
    reached all line can.before (omega (arith, can.place)) (omega (arith, can.place, can.some, counted, sizes)) (ap (with_lines 1 empty) fronts ∙ read)

-- nothing is added at first
pub none_added : (first : ℕ) (t : LogText) → with_lines first t [] ≡ Ok t
unfolding with_lines
none_added first t = refl

-- a line more is taken
pub taken_more : (old new : List (Bor (List ℕ))) (front : Bor (List ℕ)) (rest after bytes : List ℕ) → 0 < length rest → front.now ≡ before_first is_feed rest → after ≡ after_first is_feed rest → new ≡ old ++ front ∷ [] → texts old ++ lines rest ≡ lines bytes → texts new ++ lines after ≡ lines bytes
taken_more old new front rest after bytes some line others is sofar =
    let next : lines rest ≡ front.now ∷ lines after = lines-next rest some ∙ ap (λ (l : List ℕ). l ∷ lines (after_first is_feed rest)) (sym line) ∙ ap (λ (l : List ℕ). front.now ∷ lines l) (sym others) in
    let more : texts new ≡ texts old ++ front.now ∷ [] = ap texts is ∙ map-append (λ (l : Bor (List ℕ)). l.now) old (front ∷ []) in
    ap (λ (ls : List (List ℕ)). ls ++ lines after) more
    ∙ append_assoc (texts old) (front.now ∷ []) (lines after)
    ∙ ap (λ (ls : List (List ℕ)). texts old ++ ls) (sym next)
    ∙ sofar

-- where no bytes are left, a line was taken if there was a byte
pub some_taken : (taken : List (Bor (List ℕ))) (rest bytes : List ℕ) → length rest ≡ 0 → texts taken ++ lines rest ≡ lines bytes → 0 < length bytes → 0 < length taken
some_taken taken [] bytes none is some = omega (arith, length-map taken (λ (l : Bor (List ℕ)). l.now), length-append (texts taken) (lines []), ap length is, ap length (lines-next bytes some))
some_taken taken (b ∷ bs) bytes none is some = absurd (omega arith)

-- to hand on a fault that these lines have, at a line that can be reached, is an answer to adding them
pub adds_same : (r : Result (Unit {0}) SwfFault) (fault : SwfFault) (first : ℕ) (old : LogText) (ls : List (List ℕ)) (new : LogText) → IsErrAnd r (λ e. e ≡ fault) → FailsAt fault.kind fault.line (with_lines first old ls) → CanReach first old ls fault.line → AddsLines first old ls new r
adds_same (Ok done) fault first old ls new is fails can = absurd is
adds_same (Err e) fault first old ls new is fails can = subst (λ (f : SwfFault). FailsAt f.kind f.line (with_lines first old ls) × CanReach first old ls f.line) (sym is) (fails, can)

-- bytes have a line
pub lines_some : (bytes : List ℕ) → 0 < length bytes → 0 < length (lines bytes)
lines_some bytes some = omega (arith, ap length (lines-next bytes some))

-- a line is left where a line of the batch or a byte is
pub some_left : (ready : List (Bor (List ℕ))) (rest : List ℕ) → 0 < length ready + length rest → 0 < length (texts ready ++ lines rest)
some_left ready [] some = omega (arith, length-append (texts ready) (lines []), length-map ready (λ (l : Bor (List ℕ)). l.now))
some_left ready (b ∷ bs) some = omega (arith, length-append (texts ready) (lines (b ∷ bs)), ap length (lines-next (b ∷ bs) (omega arith)))

-- what a batch takes is less than what was left
pub smaller : (rest ready taken after : ℕ) → taken + after ≤ rest → (0 < rest → 0 < taken) → 0 < ready + rest → 2 * after + taken < 2 * rest + ready
smaller zero ready taken after count one some = omega arith
smaller (suc rest) ready taken after count one some = omega (arith, one (omega arith))

-- without a line and a byte, nothing is left
pub none_left : (line : ℕ) (t : LogText) (ready : List (Bor (List ℕ))) (rest : List ℕ) → length ready + length rest ≡ 0 → with_lines line t (texts ready ++ lines rest) ≡ Ok t
none_left line t [] rest none = at_end line t rest (omega arith)
none_left line t (l ∷ ls) rest none = absurd (omega arith)
