-- Conversations, turn after turn: a turn reads a line and writes its response, or the conversation ends, at `quit`, at the end of the
-- input, or where the reader or the writer failed.
use Rattle.std.proofs.Common.{◌≡◌, ℕ, ◌+◌, ◌<◌, ◌≤◌, Bool, true, false, List, [], ◌∷◌, ◌++◌, length, take, Option, Some, None, Result, Ok, Err, IfSome, refl, sym, ap, subst, ◌∙◌, append_assoc, append-nil, arith, if◌then◌else◌, ltb, eqb, length-append, true≢false}
use Rattle.std.specs.List.{All, slice_split}
use Rattle.std.specs.Io.KnownBytes.{Appends, Consumes}
use Rattle.std.proofs.KnownBytes.{Appends-trans, Appends-nil, Consumes-trans, Consumes-nil}
use Rattle.std.proofs.lemmas.Bool.{le-ltb, lt-ltb, ne_eqb}
use Rattle.std.proofs.lemmas.List.Elements.{All-append, All-cons, All-nil}
use Rattle.std.proofs.lemmas.List.Splits.{slice_split_at, slice_split_none, length-slice_split}
use Rattle.swf_text.specs.Limits.{line_limit}
use Rattle.swf_text.specs.Text.{lines, is_feed, without_empty_end}
use Rattle.commands.specs.declared.command.Command.{Command}
use Rattle.commands.specs.declared.fault.CommandFault.{CommandFault}
use Rattle.commands.specs.declared.fault.CommandFault.TheVariants.{TooLong}
use Rattle.commands.specs.Commands.{command_of_line}
use Rattle.scripts.specs.Hearing.{HasNoFeed, IsBegun, IsHeard, MayFollow, Reads}
use Rattle.scripts.specs.Live.{AreWholeLines, IsReadTo, IsSaid, NoneQuits, Turns, answered_of}
use Rattle.version_book.specs.Session.{Session}
use Rattle.scripts.specs.Transcript.{IsLine, IsTranscript, IsTranscriptOf, is_quit, looked_at}
use Rattle.scripts.specs.declared.hearing.LineEnd.{LineEnd}
use Rattle.scripts.specs.declared.hearing.LineEnd.TheVariants.{Feed, Input, Open}
use Rattle.scripts.specs.declared.hearing.ReadFault.{ReadFault}
use Rattle.scripts.specs.declared.live.LiveFault.{LiveFault}
use Rattle.scripts.specs.declared.live.LiveFault.TheVariants as faults
use Rattle.scripts.proofs.Hearings.{joined, no_byte, reads_behind}

more_parts : (part : List ℕ) (parts : List (List ℕ)) → 0 < length parts → without_empty_end (part ∷ parts) ≡ part ∷ without_empty_end parts
more_parts part [] some = absurd (omega arith)
more_parts part (next ∷ parts) some = refl

lines_fed : (line rest : List ℕ) → HasNoFeed line → lines ((line ++ 10 ∷ []) ++ rest) ≡ line ∷ lines rest
lines_fed line rest none =
    ap lines (append_assoc line (10 ∷ []) rest) ∙ ap without_empty_end (slice_split_at is_feed line 10 rest none refl)
    ∙ more_parts line (slice_split is_feed rest) (omega (arith, length-slice_split is_feed rest))

lines_last : (line : List ℕ) → HasNoFeed line → 0 < length line → lines line ≡ line ∷ []
lines_last line none some =
    let filled : eqb (length line) 0 ≡ false = ne_eqb (length line) 0 (λ empty. omega arith) in
    let one : without_empty_end (line ∷ []) ≡ line ∷ [] = rw filled refl in
    ap without_empty_end (slice_split_none is_feed line none) ∙ one

too_long : {A : Type 0} (line : List ℕ) → line_limit < length line → command_of_line {A = A} line ≡ Err TooLong
too_long line long = let test : ltb line_limit (length line) ≡ true = lt-ltb line_limit (length line) long in rw test refl

answered_none : (part : List ℕ) → length part ≤ line_limit → answered_of part ≡ []
answered_none part short = let test : ltb line_limit (length part) ≡ false = le-ltb line_limit (length part) short in rw test refl

answered_all : (part : List ℕ) → line_limit < length part → answered_of part ≡ part
answered_all part long = let test : ltb line_limit (length part) ≡ true = lt-ltb line_limit (length part) long in rw test refl

lines_more : (read line : List ℕ) → AreWholeLines read → HasNoFeed line → lines (read ++ (line ++ 10 ∷ [])) ≡ lines read ++ line ∷ []
lines_more read line whole none =
    let one : lines (line ++ 10 ∷ []) ≡ line ∷ [] = ap lines (sym (append-nil (line ++ 10 ∷ []))) ∙ lines_fed line [] none in
    whole (line ++ 10 ∷ []) ∙ ap (λ ls. lines read ++ ls) one

whole_more : (read line : List ℕ) → AreWholeLines read → HasNoFeed line → AreWholeLines (read ++ (line ++ 10 ∷ []))
whole_more read line whole none = λ rest.
    ap lines (append_assoc read (line ++ 10 ∷ []) rest) ∙ whole ((line ++ 10 ∷ []) ++ rest) ∙ ap (λ ls. lines read ++ ls) (lines_fed line rest none)
    ∙ sym (append_assoc (lines read) (line ∷ []) (lines rest)) ∙ ap (λ ls. ls ++ lines rest) (sym (lines_more read line whole none))

none_more : (A : Type 0) (read line : List ℕ) → AreWholeLines read → HasNoFeed line → NoneQuits A read → is_quit (command_of_line {A = A} line) ≡ false → NoneQuits A (read ++ (line ++ 10 ∷ []))
none_more A read line whole none quits goes =
    subst (All (λ l. is_quit (command_of_line {A = A} l) ≡ false)) (sym (lines_more read line whole none))
    (All-append (λ l. is_quit (command_of_line {A = A} l) ≡ false) (lines read) (line ∷ []) quits (All-cons (λ l. is_quit (command_of_line {A = A} l) ≡ false) line [] goes (All-nil (λ l. is_quit (command_of_line {A = A} l) ≡ false))))

whole_fed : (from mid to : Option (List ℕ)) (read line : List ℕ) → Consumes from mid read → Consumes mid to (line ++ 10 ∷ []) → (rest : List ℕ) × IfSome from (λ all. read ++ (line ++ 10 ∷ []) ++ rest ≡ all)
whole_fed None mid to read line p q = ([], tt)
whole_fed (Some x) None to read line p q = absurd p
whole_fed (Some x) (Some y) None read line p q = absurd q
whole_fed (Some x) (Some y) (Some z) read line p q = (z, sym (p ∙ ap (λ l. read ++ l) q ∙ sym (append_assoc read (line ++ 10 ∷ []) z)))

whole_last : (from mid to : Option (List ℕ)) (read line : List ℕ) → Consumes from mid read → Reads mid to line Input → IfSome from (λ all. read ++ line ≡ all)
whole_last None mid to read line p q = tt
whole_last (Some x) None to read line p q = absurd p
whole_last (Some x) (Some y) to read line p q = sym (p ∙ ap (λ l. read ++ l) q.0)

module _ (A : Type 0) (comments : List (List ℕ)) (first now next : Session) (number : ℕ) (read written text : List ℕ)
    (goes : (rest later : List ℕ) → IsTranscript A comments now (looked_at A (lines rest)) number later → IsTranscriptOf A comments first (read ++ rest) (written ++ later)) where
  abbrev IsSo : List ℕ → Type 0
  IsSo line = IsLine comments now number (command_of_line {A = A} line) text next

  one_more : (line bytes rest later : List ℕ) (ls : List (List ℕ)) → lines (bytes ++ rest) ≡ line ∷ ls → IsSo line
      → IsTranscript A comments next (if is_quit (command_of_line {A = A} line) then [] else looked_at A ls) (number + 1) later
      → IsTranscriptOf A comments first ((read ++ bytes) ++ rest) ((written ++ text) ++ later)
  one_more line bytes rest later ls is answers h =
      let outcome = goes (bytes ++ rest) (text ++ later) (subst (λ (l : List (List ℕ)). IsTranscript A comments now (looked_at A l) number (text ++ later)) (sym is) (text, next, later, answers, h, refl)) in
      subst (λ (out : List ℕ). IsTranscriptOf A comments first ((read ++ bytes) ++ rest) out) (sym (append_assoc written text later))
      (subst (λ (bs : List ℕ). IsTranscriptOf A comments first bs (written ++ (text ++ later))) (sym (append_assoc read bytes rest)) outcome)

  at_last : (line bytes rest : List ℕ) (ls : List (List ℕ)) → lines (bytes ++ rest) ≡ line ∷ ls → IsSo line
      → IsTranscript A comments next (if is_quit (command_of_line {A = A} line) then [] else looked_at A ls) (number + 1) []
      → IsTranscriptOf A comments first ((read ++ bytes) ++ rest) (written ++ text)
  at_last line bytes rest ls is answers h =
      subst (λ (out : List ℕ). IsTranscriptOf A comments first ((read ++ bytes) ++ rest) out) (append-nil (written ++ text)) (one_more line bytes rest [] ls is answers h)

  at_quit : (line rest : List ℕ) → HasNoFeed line → IsSo line → is_quit (command_of_line {A = A} line) ≡ true → IsTranscriptOf A comments first ((read ++ (line ++ 10 ∷ [])) ++ rest) (written ++ text)
  at_quit line rest none answers quits = at_last line (line ++ 10 ∷ []) rest (lines rest) (lines_fed line rest none) answers (rw quits refl)

  nothing_more : (quits : Bool) → IsTranscript A comments next (if quits then [] else []) (number + 1) []
  nothing_more true = refl
  nothing_more false = refl

  alone : (line bytes : List ℕ) → lines bytes ≡ line ∷ [] → IsSo line → IsTranscriptOf A comments first (read ++ bytes) (written ++ text)
  alone line bytes is answers =
      subst (λ (bs : List ℕ). IsTranscriptOf A comments first bs (written ++ text)) (append-nil (read ++ bytes))
      (at_last line bytes [] [] (ap lines (append-nil bytes) ∙ is) answers (nothing_more (is_quit (command_of_line {A = A} line))))

  unfed : (line : List ℕ) → HasNoFeed line → IsSo line → IsTranscriptOf A comments first (read ++ line) (written ++ text)
  unfed [] none answers = subst (λ (t : List ℕ). IsTranscriptOf A comments first (read ++ []) (written ++ t)) (sym answers.0) (goes [] [] refl)
  unfed (b ∷ bs) none answers = alone (b ∷ bs) (b ∷ bs) (lines_last (b ∷ bs) none (omega arith)) answers

  with_feed : (line : List ℕ) → HasNoFeed line → IsSo line → IsTranscriptOf A comments first (read ++ (line ++ 10 ∷ [])) (written ++ text)
  with_feed line none answers = alone line (line ++ 10 ∷ []) (ap lines (sym (append-nil (line ++ 10 ∷ []))) ∙ lines_fed line [] none) answers

module _ (A : Type 0) (comments : List (List ℕ)) (first : Session) (from mid old out : Option (List ℕ)) (now : Session) (number : ℕ) (said : IsSaid A comments first from mid old out now number) where
  stands : (to : Option (List ℕ)) (line : List ℕ) (end : LineEnd) → HasNoFeed line → Reads mid to line end → IsReadTo A from to said.read line end
  stands to line end none read = record {
    are_whole = said.are_whole;
    none_quits = said.none_quits;
    one_line = none;
    is_read = reads_behind from mid to said.read line end said.are_read read;
  }

  -- a turn whose reader failed before it read a line, or so much of one that it is too long
  pub unheard : (result : Result Bool LiveFault) (next : Session) (to : Option (List ℕ)) (part : List ℕ) → result ≡ Err faults.Read → IsBegun mid to part → Turns A comments first from to old out next number result
  unheard result next to part outcome begun =
      let none : said.read ++ answered_of part ≡ said.read = ap (λ l. said.read ++ l) (answered_none part begun.short) ∙ append-nil said.read in
      rw outcome (
        said.read,
        part,
        said.written,
        stands to part Open begun.one_line begun.is_read,
        subst (λ (bs : List ℕ). IsTranscriptOf A comments first bs said.written) (sym none) said.transcript,
        said.are_written,
      )

  module _ (next : Session) (to new : Option (List ℕ)) (text line : List ℕ) (end : LineEnd) (heard : IsHeard mid to line end) (answers : IsLine comments now number (command_of_line {A = A} line) text next) where
    -- a turn whose writer failed in the response
    pub cut_off : (result : Result Bool LiveFault) → result ≡ Err faults.Write → (n : ℕ) × Appends out new (take n text) → Turns A comments first from to old new next number result
    cut_off result outcome (n, part) =
        rw outcome (
          said.read,
          line,
          said.written,
          text,
          end,
          stands to line end heard.one_line heard.is_read,
          heard.long,
          said.transcript,
          unfed A comments first now next number said.read said.written text said.goes_on line heard.one_line answers,
          (n, Appends-trans old out new said.written (take n text) said.are_written part),
        )

    module _ (rest : List ℕ) (over : line_limit < length line) where
      over_too : line_limit < length (line ++ rest)
      over_too = omega (arith, length-append line rest, over)

      so_too : IsLine comments now number (command_of_line {A = A} (line ++ rest)) text next
      so_too = subst (λ (k : Result (Option (Command A)) CommandFault). IsLine comments now number k text next) (too_long {A = A} line over ∙ sym (too_long {A = A} (line ++ rest) over_too)) answers

    -- a turn whose reader failed behind the response, in the rest of a line that is too long
    pub unread : (result : Result Bool LiveFault) (later : Option (List ℕ)) (fault : ReadFault) → result ≡ Err faults.Read → Appends out new text → MayFollow {E = ReadFault} to later end (Err fault) → Turns A comments first from later old new next number result
    unread result later fault outcome all follows = rw outcome (go end heard follows) where
      go : (e : LineEnd) → IsHeard mid to line e → MayFollow {E = ReadFault} to later e (Err fault) → Turns A comments first from later old new next number (Err faults.Read)
      go Feed h m = absurd m
      go Input h m = absurd m
      go Open h (rest, none, read) =
          let whole = joined line rest h.one_line none in
          let part : answered_of (line ++ rest) ≡ line ++ rest = answered_all (line ++ rest) (over_too rest h.long) in
          let transcript = unfed A comments first now next number said.read said.written text said.goes_on (line ++ rest) whole (so_too rest h.long) in (
            said.read,
            line ++ rest,
            said.written ++ text,
            stands later (line ++ rest) Open whole (reads_behind mid to later line rest Open h.is_read read),
            subst (λ (bs : List ℕ). IsTranscriptOf A comments first (said.read ++ bs) (said.written ++ text)) (sym part) transcript,
            Appends-trans old out new said.written text said.are_written all,
          )

    at_end : (whole : List ℕ) (later : Option (List ℕ)) → HasNoFeed whole → IsLine comments now number (command_of_line {A = A} whole) text next → Reads mid later whole Input → Appends out new text
        → Turns A comments first from later old new next number (Ok false)
    at_end whole later none so read outcome = (
      said.read ++ whole,
      said.written ++ text,
      whole_last from mid later said.read whole said.are_read read,
      (said.read, whole, Input, stands later whole Input none read, tt),
      unfed A comments first now next number said.read said.written text said.goes_on whole none so,
      Appends-trans old out new said.written text said.are_written outcome,
    )

    at_feed : (whole : List ℕ) (later : Option (List ℕ)) → HasNoFeed whole → IsLine comments now number (command_of_line {A = A} whole) text next → is_quit (command_of_line {A = A} whole) ≡ false
        → Consumes mid later (whole ++ 10 ∷ []) → Appends out new text → Turns A comments first from later old new next number (Ok true)
    at_feed whole later none so goes read outcome = record {
      read = said.read ++ (whole ++ 10 ∷ []);
      written = said.written ++ text;
      are_read = Consumes-trans from mid later said.read (whole ++ 10 ∷ []) said.are_read read;
      are_whole = whole_more said.read whole said.are_whole none;
      none_quits = none_more A said.read whole said.are_whole none said.none_quits goes;
      are_written = Appends-trans old out new said.written text said.are_written outcome;
      goes_on = λ rest more h. one_more A comments first now next number said.read said.written text said.goes_on whole (whole ++ 10 ∷ []) rest more (lines rest) (lines_fed whole rest none) so (rw goes h);
      transcript = with_feed A comments first now next number said.read said.written text said.goes_on whole none so;
    }

    -- a turn with `quit`, whose response was written, ends the conversation
    pub at_quit_outcome : is_quit (command_of_line {A = A} line) ≡ true → Appends out new text → Turns A comments first from to old new next number (Ok false)
    at_quit_outcome quits outcome = go end heard where
      go : (e : LineEnd) → IsHeard mid to line e → Turns A comments first from to old new next number (Ok false)
      go Feed h =
          let all = whole_fed from mid to said.read line said.are_read h.is_read in (
            (said.read ++ (line ++ 10 ∷ [])) ++ all.0,
            said.written ++ text,
            all.1,
            (said.read, line, Feed, stands to line Feed h.one_line h.is_read, quits),
            at_quit A comments first now next number said.read said.written text said.goes_on line all.0 h.one_line answers quits,
            Appends-trans old out new said.written text said.are_written outcome,
          )
      go Input h = at_end line to h.one_line answers h.is_read outcome
      go Open h = let goes : is_quit (command_of_line {A = A} line) ≡ false = ap is_quit (too_long {A = A} line h.long) in absurd (true≢false (sym quits ∙ goes))

    -- a turn whose response was written, and not to `quit`, is over, or ends the conversation at the end of the input
    pub followed : (later : Option (List ℕ)) (fed : Bool) → is_quit (command_of_line {A = A} line) ≡ false → Appends out new text → MayFollow {E = ReadFault} to later end (Ok fed) → Turns A comments first from later old new next number (Ok fed)
    followed later fed goes outcome = go end fed heard where
      go : (e : LineEnd) (f : Bool) → IsHeard mid to line e → MayFollow {E = ReadFault} to later e (Ok f) → Turns A comments first from later old new next number (Ok f)
      go Feed true h m = subst (λ (t : Option (List ℕ)). Turns A comments first from t old new next number (Ok true)) (sym m.1) (at_feed line to h.one_line answers goes h.is_read outcome)
      go Feed false h m = absurd (true≢false (sym m.0))
      go Input true h m = absurd (true≢false m.0)
      go Input false h m = subst (λ (t : Option (List ℕ)). Turns A comments first from t old new next number (Ok false)) (sym m.1) (at_end line to h.one_line answers h.is_read outcome)
      go Open true h (rest, none, read) =
          at_feed (line ++ rest) later (joined line rest h.one_line none) (so_too rest h.long) (ap is_quit (too_long {A = A} (line ++ rest) (over_too rest h.long))) (reads_behind mid to later line rest Feed h.is_read read) outcome
      go Open false h (rest, none, read) =
          at_end (line ++ rest) later (joined line rest h.one_line none) (so_too rest h.long) (reads_behind mid to later line rest Input h.is_read read) outcome

-- before the first turn nothing was read, and nothing said
pub unsaid : (A : Type 0) (comments : List (List ℕ)) (first : Session) (from old : Option (List ℕ)) → IsSaid A comments first from from old old first 1
unsaid A comments first from old = record {
  read = [];
  written = [];
  are_read = Consumes-nil from;
  are_whole = λ rest. refl;
  none_quits = All-nil (λ line. is_quit (command_of_line {A = A} line) ≡ false);
  are_written = Appends-nil old;
  goes_on = λ rest later h. h;
  transcript = refl;
}

-- a line of which nothing is read yet is begun
pub unbegun : (from : Option (List ℕ)) → IsBegun from from []
unbegun from = record { one_line = no_byte; is_read = Consumes-nil from; short = omega arith }
