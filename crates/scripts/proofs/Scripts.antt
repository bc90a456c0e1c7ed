-- Scripts, line after line: what was written so far responds to the first lines, up to `quit`, to the last, or to where the writer failed.
use Rattle.std.proofs.Common.{◌≡◌, ℕ, ◌+◌, ◌<◌, Bool, true, false, List, [], ◌∷◌, ◌++◌, length, take, Option, refl, sym, subst, ap, ◌∙◌, append_assoc, append-nil, arith, if◌then◌else◌}
use Rattle.std.specs.List.{before_first, after_first}
use Rattle.std.specs.Io.KnownBytes.{Appends}
use Rattle.std.proofs.KnownBytes.{Appends-trans}
use Rattle.std.proofs.lemmas.List.{length_push}
use Rattle.swf_text.specs.Text.{lines, is_feed}
use Rattle.swf_text.proofs.Lemmas.{lines-next}
use Rattle.commands.specs.Commands.{command_of_line}
use Rattle.scripts.specs.Analysts.{LineBy, LinesBy}
use Rattle.version_book.specs.Rules.{Rules}
use Rattle.scripts.specs.Transcript.{is_quit, looked_at}

lines-more : {S : Type 0} (rules : Rules S) (A : Type 0) (comments : List (List ℕ)) (old now next : S) (front : List (List ℕ)) (line : List ℕ) (first number : ℕ) (done text : List ℕ)
    → number ≡ first + length front → LinesBy rules A comments old front first done now → LineBy rules comments now number (command_of_line {A = A} line) text next → LinesBy rules A comments old (front ++ line ∷ []) first (done ++ text) next
lines-more {S} rules A comments old now next [] line first number done text is h one =
    let n : number ≡ first = omega (arith, is) in
    let at : LineBy rules comments old first (command_of_line {A = A} line) text next =
    subst (λ (s : S). LineBy rules comments s first (command_of_line {A = A} line) text next) h.1 (subst (λ (k : ℕ). LineBy rules comments now k (command_of_line {A = A} line) text next) n one) in
    (text, next, [], at, (refl, refl), ap (λ (d : List ℕ). d ++ text) h.0 ∙ sym (append-nil text))
lines-more rules A comments old now next (l ∷ front) line first number done text is h one =
    let n : number ≡ (first + 1) + length front = omega (arith, is) in
    (h.0, h.1, h.2 ++ text, h.3, lines-more rules A comments h.1 now next front line (first + 1) number h.2 text n h.4 one, ap (λ (d : List ℕ). d ++ text) h.5 ∙ append_assoc h.0 h.2 text)

-- so far the responses to the first lines of the script were written, and the others stand behind them
pub record HaveAnswered {S : Type 0} (rules : Rules S) (A : Type 0) (comments : List (List ℕ)) (first : S) (script : List ℕ) (now : S) (rest : List ℕ) (number : ℕ) (old new : Option (List ℕ)) : Type 0 where
  pub front : List (List ℕ)
  pub done : List ℕ
  pub whole : looked_at A (lines script) ≡ front ++ looked_at A (lines rest)
  pub count : number ≡ 1 + length front
  pub answers : LinesBy rules A comments first front 1 done now
  pub written : Appends old new done

module _ {S : Type 0} (rules : Rules S) (A : Type 0) (comments : List (List ℕ)) (first : S) (script : List ℕ) (now : S) (rest : List ℕ) (number : ℕ) (old mid new : Option (List ℕ)) (text : List ℕ) (next : S) (some : 0 < length rest) (have : HaveAnswered rules A comments first script now rest number old mid) (answers : LineBy rules comments now number (command_of_line {A = A} (before_first is_feed rest)) text next) where
  after : List (List ℕ)
  after = if is_quit (command_of_line {A = A} (before_first is_feed rest)) then [] else looked_at A (lines (after_first is_feed rest))

  whole-next : looked_at A (lines script) ≡ (have.front ++ before_first is_feed rest ∷ []) ++ after
  unfolding after
  whole-next =
      have.whole ∙ ap (λ (ls : List (List ℕ)). have.front ++ looked_at A ls) (lines-next rest some) ∙ sym (append_assoc have.front (before_first is_feed rest ∷ []) after)

  lines-next-too : LinesBy rules A comments first (have.front ++ before_first is_feed rest ∷ []) 1 (have.done ++ text) next
  lines-next-too = lines-more rules A comments first now next have.front (before_first is_feed rest) 1 number have.done text have.count have.answers answers

  -- with the response to the next line, which isn't `quit`, those to one line more were written
  pub answered-more : is_quit (command_of_line {A = A} (before_first is_feed rest)) ≡ false → Appends mid new text → HaveAnswered rules A comments first script next (after_first is_feed rest) (number + 1) old new
  unfolding after
  answered-more goes all = record {
    front = have.front ++ before_first is_feed rest ∷ [];
    done = have.done ++ text;
    whole = whole-next ∙ ap (λ (b : Bool). (have.front ++ before_first is_feed rest ∷ []) ++ (if b then [] else looked_at A (lines (after_first is_feed rest)))) goes;
    count = omega (arith, have.count, length_push have.front (before_first is_feed rest));
    answers = lines-next-too;
    written = Appends-trans old mid new have.done text have.written all;
  }

  -- where the writer failed in a response, this line was the last that was worked, behind those whose responses were written
  pub answered-part : (n : ℕ) × Appends mid new (take n text)
      → (front : List (List ℕ)) × (line : List ℕ) × (back : List (List ℕ)) × (before out : List ℕ) × (last : S) × (looked_at A (lines script) ≡ front ++ line ∷ back)
      × LinesBy rules A comments first front 1 before last × LineBy rules comments last (1 + length front) (command_of_line {A = A} line) out next × ((n : ℕ) × Appends old new (before ++ take n out))
  answered-part part =
      let line = before_first is_feed rest in
      let whole : looked_at A (lines script) ≡ have.front ++ line ∷ after = whole-next ∙ append_assoc have.front (line ∷ []) after in
      let answered : LineBy rules comments now (1 + length have.front) (command_of_line {A = A} line) text next = subst (λ (k : ℕ). LineBy rules comments now k (command_of_line {A = A} line) text next) have.count answers in
      (have.front, line, after, have.done, text, now, whole, have.answers, answered, (part.0, Appends-trans old mid new have.done (take part.0 text) have.written part.1))

  -- with the response to `quit`, those to all lines that are looked at were written
  pub answered-quit : is_quit (command_of_line {A = A} (before_first is_feed rest)) ≡ true → Appends mid new text
      → (out : List ℕ) × LinesBy rules A comments first (looked_at A (lines script)) 1 out next × Appends old new out
  unfolding after
  answered-quit quits all =
      let whole : looked_at A (lines script) ≡ have.front ++ before_first is_feed rest ∷ [] =
      whole-next ∙ ap (λ (b : Bool). (have.front ++ before_first is_feed rest ∷ []) ++ (if b then [] else looked_at A (lines (after_first is_feed rest)))) quits ∙ append-nil (have.front ++ before_first is_feed rest ∷ []) in
      (have.done ++ text, subst (λ (ls : List (List ℕ)). LinesBy rules A comments first ls 1 (have.done ++ text) next) (sym whole) lines-next-too, Appends-trans old mid new have.done text have.written all)

-- where no line is left, the responses to all lines that are looked at were written
pub answered-all : {S : Type 0} (rules : Rules S) (A : Type 0) (comments : List (List ℕ)) (first : S) (script : List ℕ) (now : S) (rest : List ℕ) (number : ℕ) (old new : Option (List ℕ))
    → length rest ≡ 0 → HaveAnswered rules A comments first script now rest number old new
    → (out : List ℕ) × LinesBy rules A comments first (looked_at A (lines script)) 1 out now × Appends old new out
answered-all rules A comments first script now [] number old new none have =
    (have.done, subst (λ (ls : List (List ℕ)). LinesBy rules A comments first ls 1 have.done now) (sym (have.whole ∙ append-nil have.front)) have.answers, have.written)
answered-all rules A comments first script now (b ∷ bs) number old new none have = absurd (omega arith)
