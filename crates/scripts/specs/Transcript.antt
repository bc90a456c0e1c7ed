-- What may be written for a script. Where `short` is false, no memory is refused in it; what lacks this mark allows for that.
use Rattle.std.specs.Prelude.{◌≡◌, ℕ, ◌+◌, List, [], ◌∷◌, ◌++◌, Bool, true, false, if◌then◌else◌, Option, Some, None, Result, Ok, Err}
use Rattle.swf_text.specs.Entry.{LogEntry}
use Rattle.swf_text.specs.Text.{lines}
use Rattle.swf_text.specs.Writing.{Writes}
use Rattle.scenarios.specs.ScenarioList.{Listed}
use Rattle.commands.specs.declared.command.Command.{Command}
use Rattle.commands.specs.declared.command.Command.TheVariants as asks
use Rattle.commands.specs.declared.fault.CommandFault.{CommandFault}
use Rattle.commands.specs.Commands.{command_of_line}
use Rattle.book_machine.specs.Call.{AddScenario}
use Rattle.book_machine.specs.Machine.{Machine, opened, after}
use Rattle.scripts.specs.Lines.{fault_line}
use Rattle.version_book.specs.Session.{Session}
use Rattle.scripts.specs.Steps.{AnswersIf}

-- a log with its scenarios, each added by a call of its own; the session has seen nothing
abbrev pub with_scenarios : Machine → List Listed → Machine
with_scenarios m [] = m
with_scenarios m (s ∷ scenarios) = with_scenarios (after (AddScenario s.name s.scenario) m) scenarios

abbrev pub begun : List LogEntry → List Listed → Session
begun log scenarios = record { machine = with_scenarios (opened log) scenarios; seen = 0 }

-- A line of a script: a command and its response, a line that holds none and gets nothing, or a fault with the line's number.
abbrev pub IsLineIf : {A : Type 0} → Bool → List (List ℕ) → Session → ℕ → Result (Option (Command A)) CommandFault → List ℕ → Session → Type 0
IsLineIf short comments old number (Ok None) text new = (text ≡ []) × (new ≡ old)
IsLineIf short comments old number (Ok (Some command)) text new = AnswersIf short comments old command text new
IsLineIf short comments old number (Err fault) text new = (text ≡ fault_line number fault) × (new ≡ old)

abbrev pub IsLine : {A : Type 0} → List (List ℕ) → Session → ℕ → Result (Option (Command A)) CommandFault → List ℕ → Session → Type 0
IsLine comments old number asked text new = IsLineIf true comments old number asked text new

-- the script ends behind this line
abbrev pub is_quit : {A : Type 0} → Result (Option (Command A)) CommandFault → Bool
is_quit (Ok (Some asks.Quit)) = true
is_quit other = false

module _ (A : Type 0) where
  -- the lines up to the first `quit`
  abbrev pub looked_at : List (List ℕ) → List (List ℕ)
  looked_at [] = []
  looked_at (line ∷ others) = line ∷ (if is_quit (command_of_line {A = A} line) then [] else looked_at others)

  -- what may be written for these lines from a state on, where the first of them has this number
  abbrev pub IsTranscriptIf : Bool → List (List ℕ) → Session → List (List ℕ) → ℕ → List ℕ → Type 0
  IsTranscriptIf short comments old [] number out = out ≡ []
  IsTranscriptIf short comments old (line ∷ others) number out =
      (text : List ℕ) × (next : Session) × (later : List ℕ)
      × IsLineIf short comments old number (command_of_line {A = A} line) text next × IsTranscriptIf short comments next others (number + 1) later
      × (out ≡ text ++ later)

  abbrev pub IsTranscript : List (List ℕ) → Session → List (List ℕ) → ℕ → List ℕ → Type 0
  IsTranscript comments old ls number out = IsTranscriptIf true comments old ls number out

  -- what may be written for a whole script, from a state on
  abbrev pub IsTranscriptOf : List (List ℕ) → Session → List ℕ → List ℕ → Type 0
  IsTranscriptOf comments first script out = IsTranscript comments first (looked_at (lines script)) 1 out

  -- what is written for it where no memory is refused
  abbrev pub IsUnrefused : List (List ℕ) → Session → List ℕ → List ℕ → Type 0
  IsUnrefused comments first script out = IsTranscriptIf false comments first (looked_at (lines script)) 1 out

  -- what was written of a script is a transcript of it, or where the writer failed a beginning of one
  abbrev pub Tells : {X E : Type 0} → List (List ℕ) → Session → List ℕ → Option (List ℕ) → Option (List ℕ) → Result X E → Type 0
  Tells comments first script old new result = (out : List ℕ) × IsTranscriptOf comments first script out × Writes result old new out
