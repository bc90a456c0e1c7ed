-- The bytes at the bounds of the lines are the lines, and the lines are read one after another from any of them on.
use Rattle.std.proofs.Common.{◌≡◌, ℕ, zero, suc, ◌+◌, ◌-◌, ◌<◌, ◌≤◌, List, [], ◌∷◌, ◌++◌, length, get_or, not, take, drop, map, refl, sym, ap, subst, ◌∙◌, append_assoc, arith, drop-cons}
use Rattle.std.specs.Prelude.{Result, Ok}
use Rattle.swf_text.specs.declared.fault.FaultKind.{FaultKind}
use Rattle.swf_text.specs.declared.line.LineRead.{LineRead}
use Rattle.swf_text.specs.Line.{line_of}
use Rattle.std.specs.List.{before_first, after_first, position_or_len}
use Rattle.std.proofs.lemmas.List.{append-nil, length-drop, length-take-le, length-map, drop-drop, get_or-map, take_more}
use Rattle.std.proofs.lemmas.List.Sums.{prefix_len-le-length}
use Rattle.std.proofs.lemmas.Simd.{map-map}
use Rattle.std.proofs.Math.ListN.{drop_of_length-le}
use Rattle.swf_text.specs.Text.{LogText, empty, lines, is_feed}
use Rattle.swf_text.specs.Reading.{with_line, with_lines, with_read, at_line, Fails, FailsAt}
use Rattle.swf_text.specs.Bounds.{bounds_from, bounds_of, bytes_at}
use Rattle.swf_text.proofs.Texts.{lines-next, fails_at, with_lines-append}

-- where bounds and those of the lines that remain are the bounds of the bytes, so are they with the bound of the next line and
-- those of the lines behind it
pub bounds_next : (old new : List (ℕ × ℕ)) (start : ℕ) (rest front after bytes : List ℕ) → 0 < length rest → front ≡ before_first is_feed rest → after ≡ after_first is_feed rest → new ≡ old ++ (start, start + length front) ∷ [] → old ++ bounds_from start (lines rest) ≡ bounds_of bytes → new ++ bounds_from (start + length front + 1) (lines after) ≡ bounds_of bytes
bounds_next old new start rest front after bytes some line others is sofar =
    let next : lines rest ≡ front ∷ lines after = lines-next rest some ∙ ap (λ (l : List ℕ). l ∷ lines (after_first is_feed rest)) (sym line) ∙ ap (λ (l : List ℕ). front ∷ lines l) (sym others) in
    ap (λ (l : List (ℕ × ℕ)). l ++ bounds_from (start + length front + 1) (lines after)) is
    ∙ append_assoc old ((start, start + length front) ∷ []) (bounds_from (start + length front + 1) (lines after))
    ∙ ap (λ (ls : List (List ℕ)). old ++ bounds_from start ls) (sym next)
    ∙ sofar

-- what stands before the first line feed is no longer than the bytes, and what follows has all the others except that feed
pub line_lengths : (bs : List ℕ) → (length (before_first is_feed bs) ≤ length bs) × (length (after_first is_feed bs) ≡ length bs - (length (before_first is_feed bs) + 1))
line_lengths bs =
    let place = prefix_len-le-length (λ b. not (is_feed b)) bs in
    let front : length (before_first is_feed bs) ≡ position_or_len is_feed bs = length-take-le (position_or_len is_feed bs) bs place in
    (omega arith, omega (arith, length-drop (position_or_len is_feed bs + 1) bs))

fit_from : (fuel start : ℕ) (bytes bs : List ℕ) → length bs ≤ fuel → bs ≡ drop start bytes → map (bytes_at bytes) (bounds_from start (lines bs)) ≡ lines bs
fit_from fuel start bytes [] le is = refl
fit_from zero start bytes (b ∷ bs) le is = absurd (omega arith)
fit_from (suc fuel) start bytes (b ∷ bs) le is =
    let rest : List ℕ = b ∷ bs in
    let front = before_first is_feed rest in
    let after = after_first is_feed rest in
    let counts = line_lengths rest in
    let next : lines rest ≡ front ∷ lines after = lines-next rest (omega arith) in
    let place : position_or_len is_feed rest ≡ length front = sym (length-take-le (position_or_len is_feed rest) rest (prefix_len-le-length (λ x. not (is_feed x)) rest)) in
    let there : after ≡ drop (start + length front + 1) bytes =
    ap (λ (n : ℕ). drop (n + 1) rest) place ∙ ap (drop (length front + 1)) is ∙ drop-drop (length front + 1) start bytes ∙ ap (λ (n : ℕ). drop n bytes) (omega arith) in
    let later = fit_from fuel (start + length front + 1) bytes after (omega (arith, counts)) there in
    let size : start + length front - start ≡ length front = omega arith in
    let here : bytes_at bytes (start, start + length front) ≡ front = ap (λ (n : ℕ). take n (drop start bytes)) size ∙ ap (take (length front)) (sym is) ∙ ap (λ (n : ℕ). take n rest) (sym place) in
    subst (λ (ls : List (List ℕ)). map (bytes_at bytes) (bounds_from start ls) ≡ ls) (sym next)
    (ap (λ (l : List ℕ). l ∷ map (bytes_at bytes) (bounds_from (start + length front + 1) (lines after))) here ∙ ap (λ (ls : List (List ℕ)). front ∷ ls) later)

pub bounds_fit : (bytes : List ℕ) → map (bytes_at bytes) (bounds_of bytes) ≡ lines bytes
bounds_fit bytes = fit_from (length bytes) 0 bytes bytes (omega arith) refl

-- where no bytes remain, the bytes at the bounds so far are the lines
pub bounds_end : (bytes rest : List ℕ) (bounds : List (ℕ × ℕ)) (start : ℕ) → length rest ≡ 0 → bounds ++ bounds_from start (lines rest) ≡ bounds_of bytes → map (bytes_at bytes) bounds ≡ lines bytes
bounds_end bytes [] bounds start none are = ap (map (bytes_at bytes)) (sym (append-nil bounds) ∙ are) ∙ bounds_fit bytes
bounds_end bytes (b ∷ bs) bounds start none are = absurd (omega arith)

module _ (bytes : List ℕ) (bounds : List (ℕ × ℕ)) (readings : List LineRead) (bounds_are : bounds ≡ bounds_of bytes) (readings_are : readings ≡ map line_of (lines bytes)) where
  -- where these are the bounds and the readings of the lines of the bytes, there are as many bounds and as many readings as lines
  pub same_count : (length bounds ≡ length (lines bytes)) × (length readings ≡ length (lines bytes))
  same_count = (
    ap length bounds_are ∙ sym (length-map (bounds_of bytes) (bytes_at bytes)) ∙ ap length (bounds_fit bytes),
    ap length readings_are ∙ length-map (lines bytes) line_of,
  )

  pub line_at : (k : ℕ) (d : ℕ × ℕ) → k < length readings → bytes_at bytes (get_or bounds k d) ≡ get_or (lines bytes) k []
  line_at k d lt =
      sym (get_or-map (bytes_at bytes) bounds k d [] (omega (arith, same_count))) ∙ ap (λ (bs : List (ℕ × ℕ)). get_or (map (bytes_at bytes) bs) k []) bounds_are ∙ ap (λ (ls : List (List ℕ)). get_or ls k []) (bounds_fit bytes)

  pub read_at : (k : ℕ) (read : LineRead) → k < length readings → read ≡ get_or readings k read → read ≡ line_of (get_or (lines bytes) k [])
  read_at k read lt is = is ∙ ap (λ (rs : List LineRead). get_or rs k read) readings_are ∙ get_or-map line_of (lines bytes) k [] read (omega (arith, same_count))

  -- what the step adds is what the line adds
  pub step_at : (t : LogText) (k : ℕ) (d : ℕ × ℕ) (read : LineRead) (line : List ℕ) → k < length readings → read ≡ get_or readings k read → line ≡ bytes_at bytes (get_or bounds k d) → with_read t line read ≡ with_line t (get_or (lines bytes) k [])
  unfolding with_line
  step_at t k d read line lt read_is line_is =
      ap (λ (l : List ℕ). with_read t l read) (line_is ∙ line_at k d lt) ∙ ap (with_read t (get_or (lines bytes) k [])) (read_at k read lt read_is)

-- where a line takes the text to the next one, the reading from it on is that of the lines behind it from the next text
pub lines_next : (number : ℕ) (t next : LogText) (ls : List (List ℕ)) (k : ℕ) → k < length ls → with_line t (get_or ls k []) ≡ Ok next → with_lines number t (drop k ls) ≡ with_lines (number + 1) next (drop (k + 1) ls)
unfolding with_lines
lines_next number t next ls k lt is =
    let one : suc k ≡ k + 1 = omega arith in
    ap (with_lines number t) (drop-cons ls k [] lt ∙ ap (λ (n : ℕ). get_or ls k [] ∷ drop n ls) one) ∙ ap (λ (r : Result LogText FaultKind). at_line number r (λ u. with_lines (number + 1) u (drop (k + 1) ls))) is

-- the fault of a line, unless memory ran out, is the fault of the reading from it on, at the line's number
pub lines_fault : (kind : FaultKind) (number : ℕ) (t : LogText) (ls : List (List ℕ)) (k : ℕ) → k < length ls → Fails kind (with_line t (get_or ls k [])) → FailsAt kind number (with_lines number t (drop k ls))
unfolding with_lines
lines_fault kind number t ls k lt h =
    subst (λ (rest : List (List ℕ)). FailsAt kind number (with_lines number t rest)) (sym (drop-cons ls k [] lt))
    (fails_at kind number (with_line t (get_or ls k [])) (λ u. with_lines (number + 1) u (drop (suc k) ls)) h)

-- behind the last line nothing more is read: the text stays
pub lines_done : (number : ℕ) (t : LogText) (ls : List (List ℕ)) (k : ℕ) → length ls ≤ k → with_lines number t (drop k ls) ≡ Ok t
unfolding with_lines
lines_done number t ls k le = ap (with_lines number t) (drop_of_length-le ls le)

-- what is read of the first lines, with a line more
pub lines_more : (all : List (List ℕ)) (place : ℕ) (t u : LogText) → place < length all → with_lines 1 empty (take place all) ≡ Ok t → with_line t (get_or all place []) ≡ Ok u → with_lines 1 empty (take (place + 1) all) ≡ Ok u
lines_more all place t u within done is = ap (with_lines 1 empty) (take_more all place [] within) ∙ with_lines-append 1 empty t (take place all) (get_or all place []) u done is

-- the readings at the bounds of the lines are those of the lines
pub readings_at : (bytes : List ℕ) (bounds : List (ℕ × ℕ)) → map (bytes_at bytes) bounds ≡ lines bytes → map (λ bound. line_of (bytes_at bytes bound)) bounds ≡ map line_of (lines bytes)
readings_at bytes bounds are = sym (map-map line_of (bytes_at bytes) bounds) ∙ ap (map line_of) are
