-- Transcripts, line after line: each command has a response, and so any lines have a transcript.
use Rattle.std.proofs.Common.{◌≡◌, ℕ, ◌+◌, true, List, [], ◌∷◌, ◌++◌, Option, Some, None, Result, Ok, Err, inl, inr, refl, sym}
use Rattle.scenarios.specs.ScenarioList.{Listed, named}
use Rattle.commands.specs.declared.command.Command.{Command}
use Rattle.commands.specs.declared.command.Command.TheVariants as asks
use Rattle.commands.specs.declared.fault.CommandFault.{CommandFault}
use Rattle.commands.specs.Commands.{command_of_line}
use Rattle.version_book.specs.Session.{Session}
use Rattle.scripts.specs.Steps.{IsNamed}
use Rattle.scripts.specs.Transcript.{IsLine, IsTranscript}
use Rattle.version_book.proofs.Lemmas.{stops}
use Rattle.scripts.proofs.Shorts.{Answers}

abbrev Some_of : (List ℕ → Session → Type 0) → Type 0
Some_of answers = (text : List ℕ) × ((new : Session) × answers text new)

some_named : (old : Session) (name : List ℕ) (follows : List ℕ → Session → Listed → Type 0) → ((s : Listed) → Some_of (λ text new. follows text new s)) → Some_of (λ text new. IsNamed old name (follows text new) text new)
some_named old name follows some = go (named name old.machine.listing.scenarios) refl where
  go : (found : Option Listed) → found ≡ named name old.machine.listing.scenarios → Some_of (λ text new. IsNamed old name (follows text new) text new)
  go None is = (_, (_, inl (sym is, (refl, refl))))
  go (Some s) is = let one = some s in (one.0, (one.1.0, inr (s, sym is, one.1.1)))

some_answer : {A : Type 0} (comments : List (List ℕ)) (old : Session) (command : Command A) → Some_of (λ text new. Answers comments old command text new)
some_answer comments old (asks.Insert entry) = (_, (_, inr (inl (refl, refl))))
some_answer comments old (asks.Remove number) = (_, (_, inr (inl (refl, refl))))
some_answer comments old (asks.Change number place value) = (_, (_, inr (inl (refl, refl))))
some_answer comments old (asks.Scenario name scenario) = (_, (_, inr (inl (refl, refl))))
some_answer comments old (asks.Drop name) = (_, (_, inr (inl (refl, refl))))
some_answer comments old (asks.Retry name) = some_named old name _ (λ s. (_, (_, inr (inl (refl, refl)))))
some_answer comments old asks.Settle = (_, (old, (true, (stops old.machine, refl, refl))))
some_answer comments old (asks.Schedule name) = some_named old name _ (λ s. (_, (_, inr (inl (refl, refl)))))
some_answer comments old (asks.Table name) = some_named old name _ (λ s. (_, (_, inr (inl (refl, refl)))))
some_answer comments old (asks.Users name) = some_named old name _ (λ s. (_, (_, inr (inl (refl, refl)))))
some_answer comments old (asks.Days name) = some_named old name _ (λ s. (_, (_, inr (inl (refl, refl)))))
some_answer comments old asks.Side = (_, (old, ([], old.machine.listing.scenarios, [], refl, (refl, refl), inr (inr refl))))
some_answer comments old (asks.Log name) = some_named old name _ (λ s. (_, (_, inr (refl, refl))))
some_answer comments old asks.Save = (_, (_, inr (refl, refl)))
some_answer comments old asks.Version = (_, (_, (refl, refl)))
some_answer comments old asks.Quit = (_, (_, (refl, refl)))

some_line : {A : Type 0} (comments : List (List ℕ)) (old : Session) (number : ℕ) (asked : Result (Option (Command A)) CommandFault) → Some_of (λ text new. IsLine comments old number asked text new)
some_line comments old number (Ok None) = (_, (_, (refl, refl)))
some_line comments old number (Ok (Some command)) = some_answer comments old command
some_line comments old number (Err fault) = (_, (_, (refl, refl)))

-- lines have a transcript, whatever they are, from any state on
pub some_transcript : (A : Type 0) (comments : List (List ℕ)) (old : Session) (ls : List (List ℕ)) (number : ℕ) → (out : List ℕ) × IsTranscript A comments old ls number out
some_transcript A comments old [] number = ([], refl)
some_transcript A comments old (line ∷ ls) number =
    let answer = some_line comments old number (command_of_line {A = A} line) in
    let later = some_transcript A comments answer.1.0 ls (number + 1) in
    (answer.0 ++ later.0, (answer.0, answer.1.0, later.0, answer.1.1, later.1, refl))
