-- Where no memory is refused, what is written follows from the state and the lines. And what a book shows is true of it.
use Rattle.std.specs.Prelude.{◌≡◌, ℕ, List, Option, Result, Ok, false}
use Rattle.swf_text.specs.Entry.{LogEntry}
use Rattle.scenarios.specs.ScenarioList.{Listing}
use Rattle.commands.specs.declared.command.Command.{Command}
use Rattle.commands.specs.declared.fault.CommandFault.{CommandFault}
use Rattle.commands.specs.Opening.{opened}
use Rattle.version_book.specs.Session.{Session}
use Rattle.scripts.specs.Transcript.{IsLineIf, IsTranscriptOf, IsUnrefused, begun}

-- a line has at most one response, and leads to at most one state
abbrev pub LinesAreOne : Type 0 → Type 0
LinesAreOne A =
    (comments : List (List ℕ)) (old : Session) (number : ℕ) (asked : Result (Option (Command A)) CommandFault) (text other : List ℕ) (new next : Session)
    → IsLineIf false comments old number asked text new → IsLineIf false comments old number asked other next → (text ≡ other) × (new ≡ next)

-- a script has at most one transcript
abbrev pub TranscriptsAreOne : Type 0 → Type 0
TranscriptsAreOne A =
    (comments : List (List ℕ)) (first : Session) (script out other : List ℕ)
    → IsUnrefused A comments first script out → IsUnrefused A comments first script other → out ≡ other

-- which is one of those where memory may be refused
abbrev pub TranscriptsAreSome : Type 0 → Type 0
TranscriptsAreSome A =
    (comments : List (List ℕ)) (first : Session) (script out : List ℕ) → IsUnrefused A comments first script out → IsTranscriptOf A comments first script out

-- what a session begins with has each scenario that a log is opened with, under its id
abbrev pub EachScenarioIsAdded : Type 0
EachScenarioIsAdded =
    (log : List LogEntry) (procs : Option ℕ) (comments : List (List ℕ)) (list : Listing) → opened procs comments ≡ Ok list → (begun log list.scenarios).machine.listing ≡ list
