-- The line for each reply of the book.
use Rattle.std.specs.Prelude.{ℕ, List, [], codes}
use Rattle.job_table.specs.Names.{edit_fault_name}
use Rattle.scenarios.specs.Names.{add_fault_name, no_such_scenario_name}
use Rattle.book_machine.specs.declared.reply.Reply.{Reply}
use Rattle.book_machine.specs.declared.reply.Reply.TheVariants as reply
use Rattle.version_book.specs.Steps.{Answer, full, memory, outcome}
use Rattle.scripts.specs.Lines.{version_line, scenario_line, refused, behind_line}

-- an edit: the version that it made, or its fault
abbrev pub edit_says : Reply → List ℕ
edit_says (reply.Edited version) = version_line version
edit_says (reply.EditRefused fault) = refused (edit_fault_name fault)
edit_says other = []

-- a scenario that is added, dropped or tried again, by its name
abbrev pub scenario_says : List ℕ → Reply → List ℕ
scenario_says name (reply.Added id) = scenario_line name (codes "added")
scenario_says name (reply.AddRefused fault) = refused (add_fault_name fault)
scenario_says name (reply.Dropped id) = scenario_line name (codes "dropped")
scenario_says name reply.Retried = scenario_line name (codes "retried")
scenario_says name reply.NoSuchScenario = refused no_such_scenario_name
scenario_says name other = []

-- a view that shows nothing
abbrev pub view_says : Reply → List ℕ
view_says reply.NoSuchScenario = refused no_such_scenario_name
view_says reply.NotYet = refused (codes "NotYet")
view_says (reply.Behind seen found) = behind_line seen found
view_says other = []

-- the line for a result of a call, given that for its reply
abbrev pub says_of : (Reply → List ℕ) → Answer → List ℕ
says_of says full = refused (codes "JournalFull")
says_of says memory = refused (codes "Memory")
says_of says (outcome r) = says r
