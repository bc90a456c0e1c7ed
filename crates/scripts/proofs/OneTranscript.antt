-- Where memory doesn't run out, a script has at most one transcript, which is one of those where memory may run out.
use Rattle.std.proofs.Common.{◌≡◌, ℕ, ◌+◌, List, [], ◌∷◌, ◌++◌, true, false, Option, Some, None, Result, Ok, Err, inl, inr, sym, ◌∙◌, ap₂, subst}
use Rattle.commands.specs.declared.command.Command.{Command}
use Rattle.commands.specs.declared.command.Command.TheVariants as asks
use Rattle.commands.specs.declared.fault.CommandFault.{CommandFault}
use Rattle.commands.specs.Commands.{command_of_line}
use Rattle.swf_text.specs.Text.{lines}
use Rattle.scenarios.specs.ScenarioList.{Listed}
use Rattle.book_machine.specs.declared.reply.Reply.{Reply}
use Rattle.book_machine.specs.declared.reply.Reply.TheVariants as reply
use Rattle.book_machine.specs.Call.{BookCall}
use Rattle.book_machine.specs.Machine.{Machine}
use Rattle.version_book.specs.Session.{Session}
use Rattle.scripts.specs.Session.{IsCallIf}
use Rattle.scripts.specs.Steps.{AnswersIf, IsDays, IsMadeIf, IsNamed, IsSchedule, IsSideIf, IsTable, IsAnswered, IsUsers, IsViewIf}
use Rattle.scripts.specs.Transcript.{IsLineIf, IsTranscriptIf, IsTranscriptOf, IsUnrefused, looked_at}
use Rattle.scripts.proofs.OneAnswer.{IsSame, one-answer}

-- where no memory is refused, two responses to a line from one state are the same, and lead to the same state
pub one-line : {A : Type 0} (comments : List (List ℕ)) (old : Session) (number : ℕ) (asked : Result (Option (Command A)) CommandFault) (text other : List ℕ) (new next : Session) → IsLineIf false comments old number asked text new → IsLineIf false comments old number asked other next → IsSame text other new next
one-line comments old number (Ok None) text other new next f g = (f.0 ∙ sym g.0, f.1 ∙ sym g.1)
one-line comments old number (Ok (Some command)) text other new next f g = one-answer comments old command text other new next f g
one-line comments old number (Err fault) text other new next f g = (f.0 ∙ sym g.0, f.1 ∙ sym g.1)

one-transcript : (A : Type 0) (comments : List (List ℕ)) (old : Session) (ls : List (List ℕ)) (number : ℕ) (out other : List ℕ) → IsTranscriptIf A false comments old ls number out → IsTranscriptIf A false comments old ls number other → out ≡ other
one-transcript A comments old [] number out other f g = f ∙ sym g
one-transcript A comments old (line ∷ ls) number out other (text, new, later, answers, rest, is) (said, next, after, outcome, others, same) =
    let one = one-line comments old number (command_of_line {A = A} line) text said new next answers outcome in
    let tail = one-transcript A comments new ls (number + 1) later after rest (subst (λ (s : Session). IsTranscriptIf A false comments s ls (number + 1) after) (sym one.1) others) in
    is ∙ ap₂ (λ (a b : List ℕ). a ++ b) one.0 tail ∙ sym same

-- where no memory is refused, two transcripts of a script from one state are the same
pub one-unrefused : (A : Type 0) (comments : List (List ℕ)) (first : Session) (script out other : List ℕ) → IsUnrefused A comments first script out → IsUnrefused A comments first script other → out ≡ other
one-unrefused A comments first script out other f g = one-transcript A comments first (looked_at A (lines script)) 1 out other f g

call-too : (old : Session) (call : BookCall) (says : Reply → List ℕ) (text : List ℕ) (new : Session) → IsCallIf false old call says text new → IsCallIf true old call says text new
call-too old call says text new (inl f) = inl f
call-too old call says text new (inr (inl f)) = absurd f
call-too old call says text new (inr (inr f)) = inr (inr f)

named-too : (old : Session) (name : List ℕ) (narrow wide : Listed → Type 0) (text : List ℕ) (new : Session) → ((s : Listed) → narrow s → wide s) → IsNamed old name narrow text new → IsNamed old name wide text new
named-too old name narrow wide text new widens (inl f) = inl f
named-too old name narrow wide text new widens (inr f) = inr (f.0, f.1, widens f.0 f.2)

outcome-too : (report : ℕ → List ℕ → Type 0) (outcome : Reply) (text : List ℕ) → IsAnswered false report outcome text → IsAnswered true report outcome text
outcome-too report (reply.Shown v) text (inl f) = inl f
outcome-too report (reply.Shown v) text (inr f) = absurd f
outcome-too report (reply.Edited v) text f = f
outcome-too report (reply.EditRefused fault) text f = f
outcome-too report (reply.Added id) text f = f
outcome-too report (reply.AddRefused fault) text f = f
outcome-too report (reply.Dropped id) text f = f
outcome-too report reply.NoSuchScenario text f = f
outcome-too report reply.Retried text f = f
outcome-too report reply.NoneDue text f = f
outcome-too report (reply.Claimed ticket id v base) text f = f
outcome-too report reply.TooManyTickets text f = f
outcome-too report (reply.Finished v) text f = f
outcome-too report reply.UnknownTicket text f = f
outcome-too report reply.Stranger text f = f
outcome-too report (reply.Stale v) text f = f
outcome-too report reply.GivenUp text f = f
outcome-too report reply.NotYet text f = f
outcome-too report (reply.Behind seen found) text f = f

view-too : (old : Session) (report : Machine → Listed → ℕ → List ℕ → Type 0) (text : List ℕ) (new : Session) (s : Listed) → IsViewIf false old report text new s → IsViewIf true old report text new s
view-too old report text new s (inl f) = inl f
view-too old report text new s (inr (inl f)) = absurd f
view-too old report text new s (inr (inr f)) = inr (inr (f.0, f.1, outcome-too (report old.machine s) f.0 text f.2))

viewed-too : (old : Session) (name : List ℕ) (report : Machine → Listed → ℕ → List ℕ → Type 0) (text : List ℕ) (new : Session) → IsNamed old name (IsViewIf false old report text new) text new → IsNamed old name (IsViewIf true old report text new) text new
viewed-too old name report text new f = named-too old name (IsViewIf false old report text new) (IsViewIf true old report text new) text new (view-too old report text new) f

side-too : (old : Session) (text : List ℕ) (new : Session) → IsSideIf false old text new → IsSideIf true old text new
side-too old text new (front, back, lines, whole, seen, inl f) = (front, back, lines, whole, seen, inl f)
side-too old text new (front, back, lines, whole, seen, inr (inl f)) = (front, back, lines, whole, seen, inr (inl f))
side-too old text new (front, back, lines, whole, seen, inr (inr f)) = absurd f

made-too : (old : Session) (made text : List ℕ) (new : Session) → IsMadeIf false old made text new → IsMadeIf true old made text new
made-too old made text new (inl f) = inl f
made-too old made text new (inr f) = absurd f

answer-too : {A : Type 0} (comments : List (List ℕ)) (old : Session) (command : Command A) (text : List ℕ) (new : Session) → AnswersIf false comments old command text new → AnswersIf true comments old command text new
answer-too comments old (asks.Insert entry) text new f = call-too old _ _ text new f
answer-too comments old (asks.Remove number) text new f = call-too old _ _ text new f
answer-too comments old (asks.Change number place value) text new f = call-too old _ _ text new f
answer-too comments old (asks.Scenario name scenario) text new f = call-too old _ _ text new f
answer-too comments old (asks.Drop name) text new f = call-too old _ _ text new f
answer-too comments old (asks.Retry name) text new f = named-too old name _ _ text new (λ s h. call-too old _ _ text new h) f
answer-too comments old asks.Settle text new f = (false, f)
answer-too comments old (asks.Schedule name) text new f = viewed-too old name IsSchedule text new f
answer-too comments old (asks.Table name) text new f = viewed-too old name IsTable text new f
answer-too comments old (asks.Users name) text new f = viewed-too old name IsUsers text new f
answer-too comments old (asks.Days name) text new f = viewed-too old name IsDays text new f
answer-too comments old asks.Side text new f = side-too old text new f
answer-too comments old (asks.Log name) text new f = named-too old name _ _ text new (λ s h. made-too old _ text new h) f
answer-too comments old asks.Save text new f = made-too old _ text new f
answer-too comments old asks.Version text new f = f
answer-too comments old asks.Quit text new f = f

line-too : {A : Type 0} (comments : List (List ℕ)) (old : Session) (number : ℕ) (asked : Result (Option (Command A)) CommandFault) (text : List ℕ) (new : Session) → IsLineIf false comments old number asked text new → IsLineIf true comments old number asked text new
line-too comments old number (Ok None) text new f = f
line-too comments old number (Ok (Some command)) text new f = answer-too comments old command text new f
line-too comments old number (Err fault) text new f = f

transcript-too : (A : Type 0) (comments : List (List ℕ)) (old : Session) (ls : List (List ℕ)) (number : ℕ) (out : List ℕ) → IsTranscriptIf A false comments old ls number out → IsTranscriptIf A true comments old ls number out
transcript-too A comments old [] number out f = f
transcript-too A comments old (line ∷ ls) number out (text, new, later, answers, rest, is) =
    (text, new, later, line-too comments old number (command_of_line {A = A} line) text new answers, transcript-too A comments new ls (number + 1) later rest, is)

-- a transcript where no memory is refused is one of those where memory may be refused
pub unrefused-too : (A : Type 0) (comments : List (List ℕ)) (first : Session) (script out : List ℕ) → IsUnrefused A comments first script out → IsTranscriptOf A comments first script out
unrefused-too A comments first script out f = transcript-too A comments first (looked_at A (lines script)) 1 out f
