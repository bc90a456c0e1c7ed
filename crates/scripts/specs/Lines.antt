-- The lines that respond to a command.
use Rattle.std.specs.Prelude.{ℕ, List, ◌++◌, codes}
use Rattle.std.specs.Fmt.{decimal}
use Rattle.commands.specs.declared.fault.CommandFault.{CommandFault}
use Rattle.commands.specs.Names.{command_fault_text}

-- the log's version
abbrev pub version_line : ℕ → List ℕ
version_line version = codes "version " ++ decimal version ++ codes "\n"

-- what became of a scenario
abbrev pub scenario_line : List ℕ → List ℕ → List ℕ
scenario_line name became = codes "scenario " ++ name ++ codes " " ++ became ++ codes "\n"

-- why a command was refused
abbrev pub refused : List ℕ → List ℕ
refused why = codes "refused " ++ why ++ codes "\n"

-- a scenario shows an older version than the session has seen
abbrev pub behind_line : ℕ → ℕ → List ℕ
behind_line seen found = codes "refused Behind seen " ++ decimal seen ++ codes " found " ++ decimal found ++ codes "\n"

-- why a line is no command
abbrev pub fault_line : ℕ → CommandFault → List ℕ
fault_line line fault = codes "fault line " ++ decimal line ++ codes " " ++ command_fault_text fault ++ codes "\n"

-- every scenario shows the version that the session has seen, or a newer one
abbrev pub settled_line : ℕ → List ℕ
settled_line seen = codes "settled " ++ decimal seen ++ codes "\n"

-- this many scenarios don't, and are given up
abbrev pub failed_line : ℕ → List ℕ
failed_line count = codes "failed " ++ decimal count ++ codes "\n"

-- some don't, and the work was stopped
abbrev pub stopped_line : List ℕ
stopped_line = codes "stopped\n"

-- the session ends
abbrev pub bye_line : List ℕ
bye_line = codes "bye\n"

-- how many lines of a saved log follow
abbrev pub saved_line : ℕ → List ℕ
saved_line count = codes "save " ++ decimal count ++ codes "\n"
