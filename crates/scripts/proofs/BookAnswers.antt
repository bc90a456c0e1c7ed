-- The responses of a session with a book of its own, as steps of the book machine: to calls, views, scenarios side by side, the log, and
-- lines of a script.
use Rattle.std.proofs.Common.{◌≡◌, ℕ, ◌+◌, ◌<◌, List, [], ◌∷◌, ◌++◌, length, take, suc, zero, refl, sym, ◌∙◌, ap, ap₂, subst, inl, inr, append_assoc, append-nil, true, arith}
use Rattle.std.specs.Prelude.{codes, slice_get, Option, None, Some, Result, Ok, Err}
use Rattle.swf_text.specs.Text.{lines}
use Rattle.scenarios.specs.ScenarioList.{Listed, named}
use Rattle.report.specs.Entries.{log_text}
use Rattle.report.specs.Side.{shown_line}
use Rattle.report.specs.Pieces.{left}
use Rattle.commands.specs.Opening.{saved}
use Rattle.commands.specs.declared.command.Command.{Command}
use Rattle.commands.specs.declared.command.Command.TheVariants as asks
use Rattle.commands.specs.declared.fault.CommandFault.{CommandFault}
use Rattle.commands.specs.Commands.{command_of_line}
use Rattle.book_machine.specs.declared.reply.Reply.{Reply}
use Rattle.book_machine.specs.Call.{BookCall, Retry, View}
use Rattle.book_machine.specs.Machine.{Machine, current, version}
use Rattle.version_book.specs.Answers.{view_answer}
use Rattle.version_book.specs.Names.{refusal_name, view_fault_name}
use Rattle.version_book.specs.Steps.{full, memory, outcome}
use Rattle.version_book.specs.declared.faults.ViewFault.{ViewFault}
use Rattle.version_book.specs.declared.faults.ViewFault.TheVariants as view
use Rattle.version_book.specs.declared.refusal.Refusal.{Refusal}
use Rattle.version_book.specs.declared.refusal.Refusal.TheVariants as why
use Rattle.scripts.specs.declared.views.Beside.{Beside}
use Rattle.scripts.specs.declared.views.Beside.TheVariants as beside
use Rattle.scripts.specs.declared.view_report.Report.{Report}
use Rattle.scripts.specs.declared.view_report.Report.TheVariants as reports
use Rattle.scripts.specs.Analysts.{AnswersBy, AreBeside, CallBy, IsLogText, LineBy, LinesBy, LogBy, NamedBy, NotBeside, SavedBy, SettledBy, SideBy, SideOf, StandsSo, ViewBy, lines_of}
use Rattle.version_book.specs.BookRules.{IsAnswered, IsTrueOf, book_rules}
use Rattle.scripts.specs.Lines.{refused, version_line}
use Rattle.version_book.specs.Looks.{IsListedAs}
use Rattle.version_book.specs.Reading.{Moment, present}
use Rattle.scripts.specs.Scripts.{TellsBy}
use Rattle.version_book.specs.Session.{Session}
use Rattle.scripts.specs.Steps.{AreSeen, IsNamed, IsSeen, IsSettledIf, saved_text, settle_line}
use Rattle.scripts.specs.Transcript.{IsLine, IsTranscript, Tells, looked_at}
use Rattle.scripts.proofs.Shorts.{Answers, IsCall, IsMade, IsReport, IsSide, IsUnseen, IsView, NotLooked}
use Rattle.scripts.proofs.Looking.{beside-shown, named-viewed, not-viewed, side-behind, side-not_yet}
use Rattle.scripts.proofs.Named.{id-none, id-some, name-found, place-of}
use Rattle.scripts.proofs.Sides.{listing-kept, side-first}
use Rattle.scripts.proofs.Transcripts.{some_transcript}
use Rattle.std.specs.Io.KnownBytes.{Appends}
use Rattle.std.proofs.Math.Seq.{take-append-add}
use Rattle.swf_text.proofs.Lemmas.{front_more}

call-of : (old : Session) (call : BookCall) (says : Reply → List ℕ) (text : List ℕ) (new : Session) → CallBy book_rules old call says text new → IsCall old call says text new
call-of old call says text new (full, h, is) = inl (h.0, (is, h.1))
call-of old call says text new (memory, h, is) = inr (inl (is, h))
call-of old call says text new (outcome r, h, is) = inr (inr (r, h, is))

named-of : (old : Session) (name : List ℕ) (follows : ℕ → Session → Type 0) (wide : Listed → Type 0) (text : List ℕ) (new : Session) → ((s : Listed) → named name old.machine.listing.scenarios ≡ Some s → follows s.id old → wide s) → NamedBy book_rules old name follows text new → IsNamed old name wide text new
named-of old name follows wide text new widens (None, mid, found, h) = inl (id-none (named name old.machine.listing.scenarios) found.0, (h.0, h.1 ∙ found.1))
named-of old name follows wide text new widens (Some id, mid, found, h) =
    let it = id-some (named name old.machine.listing.scenarios) id found.0 in
    inr (it.0, it.1, widens it.0 it.1 (subst (λ (n : ℕ). follows n old) it.2 (subst (follows id) found.1 h)))

not-looked-of : (old : Session) (id : ℕ) (refusal : Refusal ViewFault) (new : Session) → IsAnswered old (View id old.seen) (view_answer (Err refusal)) new → IsTrueOf old.machine id (Err refusal) → NotLooked refusal old id new
not-looked-of old id why.JournalFull new h true_of = h
not-looked-of old id (why.Fault view.NoSuchScenario) new h true_of = (h, true_of)
not-looked-of old id (why.Fault view.NotYet) new h true_of = h
not-looked-of old id (why.Fault (view.Behind x y)) new h true_of = h
not-looked-of old id why.Memory new h true_of = h

listed-so : (m : Machine) (name : List ℕ) (s : Listed) → named name m.listing.scenarios ≡ Some s → IsListedAs m s.id s
listed-so m name s is = let p = place-of name s m.listing.scenarios is in record { place = p.0; listed = p.1; id = refl }

view-of : (old : Session) (name : List ℕ) (kind : Report) (text : List ℕ) (new : Session) (s : Listed) → named name old.machine.listing.scenarios ≡ Some s → ViewBy book_rules old s.id name kind text new → IsView old (IsReport kind) text new s
view-of old name kind text new s is (Ok p, h, says) = named-viewed old new name s.id kind p text s is refl h.call h.shown says
view-of old name kind text new s is (Err refusal, h, says) =
    not-viewed old new s.id s kind refusal text (not-looked-of old s.id refusal new h.call h.shown) (listed-so old.machine name s is) says

abbrev AreListed : Machine → List Listed → Type 0
AreListed m [] = Unit {0}
AreListed m (s ∷ scenarios) = IsListedAs m s.id s × AreListed m scenarios

are-listed : (m : Machine) (scenarios : List Listed) → ((k : ℕ) (s : Listed) → slice_get scenarios k ≡ Some s → IsListedAs m s.id s) → AreListed m scenarios
are-listed m [] at = tt
are-listed m (s ∷ scenarios) at = (at zero s refl, are-listed m scenarios (λ k t is. at (suc k) t is))

all-listed : (m : Machine) → AreListed m m.listing.scenarios
all-listed m = are-listed m m.listing.scenarios (λ k s is. record { place = k; listed = is; id = refl })

listed-front : (m : Machine) (front back : List Listed) → AreListed m (front ++ back) → AreListed m front
listed-front m [] back h = tt
listed-front m (s ∷ front) back h = (h.0, listed-front m front back h.1)

still-listed : (m k : Machine) (scenarios : List Listed) → k.listing ≡ m.listing → AreListed m scenarios → AreListed k scenarios
still-listed m k [] same h = tt
still-listed m k (s ∷ scenarios) same h =
    (record { place = h.0.place; listed = ap (λ l. slice_get l.scenarios h.0.place) same ∙ h.0.listed; id = refl }, still-listed m k scenarios same h.1)

abbrev SeenAs : {A : Type 0} → Session → Listed → Option (Beside A) → Session → Type 0
SeenAs old s found new = (line : List ℕ) × (lines_of s.name found ≡ line ∷ []) × IsSeen old s line new

seen-of : (A : Type 0) (old : Session) (s : Listed) (found : Option (Beside A)) (new : Session) → IsListedAs old.machine s.id s → StandsSo book_rules A old s.id (Ok found) new → SeenAs old s found new
seen-of A old s found new listed (Ok p, h, is) =
    let e : found ≡ Some (beside.Shown p) = cc in
    (shown_line s.name p.version p.run.tables.overall, ap (lines_of s.name) e, beside-shown old new s.id p h.call h.shown s listed)
seen-of A old s found new listed (Err (why.Fault view.NotYet), h, is) =
    let e : found ≡ Some beside.NotYet = cc in
    (left 16 s.name ++ codes " not yet\n", ap (lines_of s.name) e, side-not_yet old new s h.call)
seen-of A old s found new listed (Err (why.Fault (view.Behind x y)), h, is) =
    let e : found ≡ Some beside.Behind = cc in
    (left 16 s.name ++ codes " behind\n", ap (lines_of s.name) e, side-behind old new s x y h.call)
seen-of A old s found new listed (Err (why.Fault view.NoSuchScenario), h, is) = absurd (h.shown s listed)
seen-of A old s found new listed (Err why.JournalFull, h, is) = cc
seen-of A old s found new listed (Err why.Memory, h, is) = cc

are-seen-of : (A : Type 0) (old : Session) (scenarios : List Listed) (ls : List (List ℕ)) (new : Session) → AreListed old.machine scenarios → AreBeside book_rules A old scenarios ls new → AreSeen old scenarios ls new
are-seen-of A old [] ls new listed h = h
are-seen-of A old (s ∷ scenarios) ls new listed (next, found, others, one, rest, is) =
    let seen = seen-of A old s found next listed.0 one in
    let kept = listing-kept old next s seen.0 seen.2 in
    (next, seen.0, others, seen.2, are-seen-of A next scenarios others new (still-listed old.machine next.machine scenarios kept listed.1) rest, is ∙ ap (λ (l : List (List ℕ)). l ++ others) seen.1)

unseen-of : (A : Type 0) (old : Session) (id : ℕ) (refusal : Refusal ViewFault) (new : Session) → StandsSo book_rules A old id (Err refusal) new → IsUnseen refusal old new
unseen-of A old id refusal new (Ok p, h, is) = cc
unseen-of A old id refusal new (Err (why.Fault view.NotYet), h, is) = cc
unseen-of A old id refusal new (Err (why.Fault (view.Behind x y)), h, is) = cc
unseen-of A old id refusal new (Err (why.Fault view.NoSuchScenario), h, is) = cc
unseen-of A old id refusal new (Err why.JournalFull, h, is) = (h.call.1, inl (cc, h.call.0))
unseen-of A old id refusal new (Err why.Memory, h, is) = (h.call, inr cc)

abbrev says_why : Refusal ViewFault → List ℕ
says_why refusal = refused (refusal_name view_fault_name refusal)

not-side : (old : Session) (front back : List Listed) (ls : List (List ℕ)) (mid new : Session) (refusal : Refusal ViewFault) (text : List ℕ) → old.machine.listing.scenarios ≡ front ++ back → AreSeen old front ls mid → 0 < length back → IsUnseen refusal mid new → text ≡ says_why refusal → IsSide old text new
not-side old front back ls mid new refusal text whole seen some (same, inl limit) is =
    (front, back, ls, whole, subst (λ (s : Session). AreSeen old front ls s) (sym same) seen, inr (inl (ap (λ (s : Session). s.machine.notes) same ∙ limit.1, some, is ∙ ap says_why limit.0)))
not-side old front back ls mid new refusal text whole seen some (same, inr short) is =
    (front, back, ls, whole, subst (λ (s : Session). AreSeen old front ls s) (sym same) seen, inr (inr (is ∙ ap says_why short)))

no-side : (A : Type 0) (old : Session) (refusal : Refusal ViewFault) (text : List ℕ) (new : Session) → NotBeside book_rules A old old.machine.listing.scenarios refusal new → text ≡ says_why refusal → IsSide old text new
no-side A old refusal text new (front, back, ls, mid, whole, are, inl end) is =
    let seen = are-seen-of A old front ls mid (listed-front old.machine front back (subst (AreListed old.machine) whole (all-listed old.machine))) are in
    (front, back, ls, whole, subst (λ (s : Session). AreSeen old front ls s) (sym end.1) seen, inr (inr (is ∙ ap says_why end.0)))
no-side A old refusal text new (front, back, ls, mid, whole, are, inr (s, others, more, one)) is =
    let seen = are-seen-of A old front ls mid (listed-front old.machine front back (subst (AreListed old.machine) whole (all-listed old.machine))) are in
    not-side old front back ls mid new refusal text whole seen (omega (arith, ap length more)) (unseen-of A mid s.id refusal new one) is

side-of-present : (A : Type 0) (old : Session) (text : List ℕ) (new : Session) → SideOf book_rules A (Some (present old.machine)) old text new → IsSide old text new
side-of-present A old text new (inl (ls, are, says)) =
    (old.machine.listing.scenarios, [], ls, sym (append-nil old.machine.listing.scenarios), are-seen-of A old old.machine.listing.scenarios ls new (all-listed old.machine) are, elim says [ inl is ↦ inl (refl, is) | inr is ↦ inr (inr is) ])
side-of-present A old text new (inr (refusal, h, is)) = no-side A old refusal text new h is

side-by : (A : Type 0) (old : Session) (text : List ℕ) (new : Session) → SideBy book_rules A old text new → IsSide old text new
side-by A old text new (None, mid, read, h) = side-first old new text (h.1 ∙ read.1) h.0
side-by A old text new (Some m, mid, read, h) =
    side-of-present A old text new (subst (λ (k : Moment). SideOf book_rules A (Some k) old text new) read.0 (subst (λ (s : Session). SideOf book_rules A (Some m) s text new) read.1 h))

log-text-of : (old : Session) (name : List ℕ) (s : Listed) (text : List ℕ) (new : Session) → s.name ≡ name → new ≡ old → IsLogText name (present old.machine) (Some s) text → IsMade old (log_text s.name (version old.machine) (current old.machine) s.scenario) text new
log-text-of old name s text new called same (inl is) = inl (is ∙ ap (λ (n : List ℕ). log_text n (version old.machine) (current old.machine) s.scenario) (sym called), same)
log-text-of old name s text new called same (inr is) = inr (is, same)

log-of : (old : Session) (name : List ℕ) (text : List ℕ) (new : Session) (s : Listed) → named name old.machine.listing.scenarios ≡ Some s → LogBy book_rules old name text new → IsMade old (log_text s.name (version old.machine) (current old.machine) s.scenario) text new
log-of old name text new s is (None, read, says) = inr (says, read.1)
log-of old name text new s is (Some m, read, says) =
    let now : IsLogText name (present old.machine) (named name old.machine.listing.scenarios) text = subst (λ (k : Moment). IsLogText name k (named name k.listing.scenarios) text) read.0 says in
    log-text-of old name s text new (name-found name s old.machine.listing.scenarios is) read.1 (subst (λ (o : Option Listed). IsLogText name (present old.machine) o text) is now)

saved-of : (old : Session) (comments : List (List ℕ)) (text : List ℕ) (new : Session) → SavedBy book_rules old comments text new → IsMade old (saved_text (saved comments (current old.machine) old.machine.listing)) text new
saved-of old comments text new (None, read, is) = inr (is, read.1)
saved-of old comments text new (Some m, read, inl is) = inl (is ∙ ap (λ (k : Moment). saved_text (saved comments k.log k.listing)) read.0, read.1)
saved-of old comments text new (Some m, read, inr is) = inr (is, read.1)

settled-of : (old : Session) (text : List ℕ) (new : Session) → SettledBy book_rules old text new → IsSettledIf true old text new
settled-of old text new (state, ((short, settles), seen, so), is) = (short, (settles, seen, is ∙ ap₂ settle_line seen so))

pub answer-of-book : {A : Type 0} (comments : List (List ℕ)) (old : Session) (command : Command A) (text : List ℕ) (new : Session) → AnswersBy book_rules comments old command text new → Answers comments old command text new
answer-of-book comments old (asks.Insert entry) text new h = call-of old _ _ text new h
answer-of-book comments old (asks.Remove number) text new h = call-of old _ _ text new h
answer-of-book comments old (asks.Change number place value) text new h = call-of old _ _ text new h
answer-of-book comments old (asks.Scenario name scenario) text new h = call-of old _ _ text new h
answer-of-book comments old (asks.Drop name) text new h = call-of old _ _ text new h
answer-of-book comments old (asks.Retry name) text new h = named-of old name _ _ text new (λ s is one. call-of old (Retry s.id) _ text new one) h
answer-of-book comments old asks.Settle text new h = settled-of old text new h
answer-of-book comments old (asks.Schedule name) text new h = named-of old name _ _ text new (view-of old name reports.Schedule text new) h
answer-of-book comments old (asks.Table name) text new h = named-of old name _ _ text new (view-of old name reports.Table text new) h
answer-of-book comments old (asks.Users name) text new h = named-of old name _ _ text new (view-of old name reports.Users text new) h
answer-of-book comments old (asks.Days name) text new h = named-of old name _ _ text new (view-of old name reports.Days text new) h
answer-of-book {A} comments old asks.Side text new h = side-by A old text new h
answer-of-book comments old (asks.Log name) text new h = named-of old name _ _ text new (log-of old name text new) h
answer-of-book comments old asks.Save text new h = saved-of old comments text new h
answer-of-book comments old asks.Version text new (v, read, is) = (is ∙ ap version_line read.0, read.1)
answer-of-book comments old asks.Quit text new h = h

-- a response that a line may have by the rules of a book is one that it may have by steps of the book machine
pub line-of-book : {A : Type 0} (comments : List (List ℕ)) (old : Session) (number : ℕ) (asked : Result (Option (Command A)) CommandFault) (text : List ℕ) (new : Session) → LineBy book_rules comments old number asked text new → IsLine comments old number asked text new
line-of-book comments old number (Ok None) text new h = h
line-of-book comments old number (Ok (Some command)) text new h = answer-of-book comments old command text new h
line-of-book comments old number (Err fault) text new h = h

lines-of-book : (A : Type 0) (comments : List (List ℕ)) (old : Session) (ls : List (List ℕ)) (number : ℕ) (out : List ℕ) (new : Session) → LinesBy book_rules A comments old ls number out new → IsTranscript A comments old ls number out
lines-of-book A comments old [] number out new h = h.0
lines-of-book A comments old (line ∷ ls) number out new (text, next, later, one, rest, is) =
    (text, next, later, line-of-book comments old number (command_of_line {A = A} line) text next one, lines-of-book A comments next ls (number + 1) later new rest, is)

lines-then : (A : Type 0) (comments : List (List ℕ)) (old : Session) (front back : List (List ℕ)) (number count : ℕ) (out more : List ℕ) (new : Session) → count ≡ number + length front → LinesBy book_rules A comments old front number out new → IsTranscript A comments new back count more → IsTranscript A comments old (front ++ back) number (out ++ more)
lines-then A comments old [] back number count out more new is h behind =
    let n : count ≡ number = omega (arith, is) in
    let here : IsTranscript A comments old back number more = subst (λ (s : Session). IsTranscript A comments s back number more) h.1 (subst (λ (k : ℕ). IsTranscript A comments new back k more) n behind) in
    subst (λ (d : List ℕ). IsTranscript A comments old back number (d ++ more)) (sym h.0) here
lines-then A comments old (line ∷ front) back number count out more new is (text, next, later, one, rest, all) behind =
    let n : count ≡ (number + 1) + length front = omega (arith, is) in (
      text,
      next,
      later ++ more,
      line-of-book comments old number (command_of_line {A = A} line) text next one,
      lines-then A comments next front back (number + 1) count later more new n rest behind,
      ap (λ (d : List ℕ). d ++ more) all ∙ append_assoc text later more,
    )

-- what is written of a script by the rules of a book is a transcript of it, or where the writer failed a beginning of one
pub tells-of-book : {X E : Type 0} (A : Type 0) (comments : List (List ℕ)) (first : Session) (script : List ℕ) (old new : Option (List ℕ)) (result : Result X E) (last : Session) → TellsBy book_rules A comments first script old new result last → Tells A comments first script old new result
tells-of-book A comments first script old new (Ok x) last (out, h, all) = (out, lines-of-book A comments first (looked_at A (lines script)) 1 out last h, all)
tells-of-book A comments first script old new (Err fault) last (front, line, back, before, text, mid, whole, h, one, (n, part)) =
    let later = some_transcript A comments last back (1 + length front + 1) in
    let more = text ++ later.0 in
    let behind : IsTranscript A comments mid (line ∷ back) (1 + length front) more = (text, last, later.0, line-of-book comments mid (1 + length front) (command_of_line {A = A} line) text last one, later.1, refl) in
    let begun = subst (Appends old new) (sym (take-append-add before text n)) part in
    let first_ones = front_more old new (before ++ text) later.0 (length before + n, begun) in (
      before ++ more,
      subst (λ (ls : List (List ℕ)). IsTranscript A comments first ls 1 (before ++ more)) (sym whole) (lines-then A comments first front (line ∷ back) 1 (1 + length front) before more mid refl h behind),
      subst (λ (l : List ℕ). (n : ℕ) × Appends old new (take n l)) (append_assoc before text later.0) first_ones,
    )
