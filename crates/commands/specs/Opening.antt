-- What a log is opened as, and what it is saved as: the scenarios stand in its comments.
use Rattle.std.specs.Prelude.{◌≡◌, ℕ, List, ◌++◌, length, map, ◌==◌, if◌then◌else◌, is_some, is_none, Option, Some, None, Result, Ok, Err, IsOk, codes}
use Rattle.std.specs.List.{filter, fold}
use Rattle.std.specs.Option.{option_or}
use Rattle.swf_text.specs.Entry.{LogEntry}
use Rattle.swf_text.specs.Text.{LogText}
use Rattle.swf_text.specs.Header.{header_number}
use Rattle.scenarios.specs.Scenario.{ScenarioView, scenario_with}
use Rattle.scenarios.specs.ScenarioList.{Listed, Listing, empty, add_fault, with_scenario}
use Rattle.commands.specs.declared.comment.ScenarioLine.{ScenarioLine}
use Rattle.commands.specs.declared.opening_fault.OpenTextFault.{OpenTextFault}
use Rattle.commands.specs.declared.opening_fault.OpenTextFault.TheVariants.{NoMachine, BadMachine, Memory}
use Rattle.commands.specs.ScenarioLine.{scenario_line, scenario_comment}

-- ---- opening

-- the comments that tell of no scenario
abbrev pub kept : List (List ℕ) → List (List ℕ)
kept comments = filter (λ comment. is_none (scenario_line comment)) comments

-- the list with this scenario too, where it is one and its name is new
abbrev pub with_added : List ℕ → Option ScenarioView → Listing → Listing
with_added name None list = list
with_added name (Some scenario) list = if is_some (add_fault name list) then list else with_scenario name scenario list

-- the list with the scenario of a line, in its order of backfills
abbrev pub with_order : Option ScenarioView → ScenarioLine → Option ScenarioView
with_order None line = None
with_order (Some scenario) line = Some (record scenario { order = line.order })

-- the list with the scenario that a comment tells of, if any
abbrev pub with_line : Listing → Option ScenarioLine → Listing
with_line list None = list
with_line list (Some line) = with_added line.name (with_order (scenario_with line.procs line.factor) line) list

-- the list of the scenarios that the comments tell of, in order: each within the limits whose name is new, while there is capacity
abbrev pub declared : List (List ℕ) → Listing
declared comments = fold (λ list comment. with_line list (scenario_line comment)) empty comments

-- the machine's processors: those that are named beside the log, else those of its comments
abbrev pub machine_of : Option ℕ → List (List ℕ) → Option ℕ
machine_of procs comments = option_or procs (option_or (header_number (codes "MaxProcs") comments) (header_number (codes "MaxNodes") comments))

-- the one scenario `base`, with estimates as they are, in order of arrival
abbrev pub base_of : Option ScenarioView → Result Listing OpenTextFault
base_of None = Err BadMachine
base_of (Some scenario) = Ok (with_scenario (codes "base") scenario empty)

abbrev pub base_on : Option ℕ → Result Listing OpenTextFault
base_on None = Err NoMachine
base_on (Some procs) = base_of (scenario_with procs 1000)

-- why there is no scenario `base`, or out of memory where there could be
abbrev pub IsBaseFault : Option ℕ → OpenTextFault → Type 0
IsBaseFault procs Memory = IsOk (base_on procs)
IsBaseFault procs fault = base_on procs ≡ Err fault

-- the scenarios of a log: those of its comments, and where they tell of none `base`
abbrev pub opened : Option ℕ → List (List ℕ) → Result Listing OpenTextFault
opened procs comments = if length (declared comments).scenarios == 0 then base_on (machine_of procs comments) else Ok (declared comments)

-- why a log isn't opened: what `opened` tells, or out of memory where it could be
abbrev pub IsOpenFault : Option ℕ → List (List ℕ) → OpenTextFault → Type 0
IsOpenFault procs comments Memory = IsOk (opened procs comments)
IsOpenFault procs comments fault = opened procs comments ≡ Err fault

-- ---- saving

-- the comment that tells of a scenario of a list
abbrev pub comment_of : Listed → List ℕ
comment_of s = scenario_comment s.name s.scenario

-- the kept comments, those that tell of the scenarios, and the entries
abbrev pub saved : List (List ℕ) → List LogEntry → Listing → LogText
saved comments entries list = record { comments = comments ++ map comment_of list.scenarios; entries = entries }
