-- The line of each result.
use Rattle.std.specs.Prelude.{ℕ, List, Result, Ok, Err, codes}
use Rattle.version_book.specs.Names.{refusal_name}
use Rattle.version_book.specs.declared.refusal.Refusal.{Refusal}
use Rattle.scripts.specs.declared.answer.Became.{Became}
use Rattle.scripts.specs.declared.answer.Became.TheVariants as became
use Rattle.scripts.specs.declared.answer.Answer.{Answer}
use Rattle.scripts.specs.declared.answer.Answer.TheVariants as says
use Rattle.scripts.specs.Lines.{version_line, scenario_line, refused, behind_line, fault_line, settled_line, failed_line, stopped_line, saved_line, bye_line}

abbrev pub became_word : Became → List ℕ
became_word became.Added = codes "added"
became_word became.Dropped = codes "dropped"
became_word became.Retried = codes "retried"

abbrev pub answer_line : Answer → List ℕ
answer_line (says.Version version) = version_line version
answer_line (says.Scenario name what) = scenario_line name (became_word what)
answer_line (says.Refused name) = refused name
answer_line (says.Behind seen found) = behind_line seen found
answer_line (says.Fault line fault) = fault_line line fault
answer_line (says.Settled seen) = settled_line seen
answer_line (says.Failed count) = failed_line count
answer_line says.Stopped = stopped_line
answer_line (says.Saved lines) = saved_line lines
answer_line says.Bye = bye_line

-- the line for a call on the scenario with this name, by the book's result
abbrev pub scenario_outcome : {T F : Type 0} → List ℕ → Became → (F → List ℕ) → Result T (Refusal F) → List ℕ
scenario_outcome name what fault_name (Ok value) = scenario_line name (became_word what)
scenario_outcome name what fault_name (Err refusal) = refused (refusal_name fault_name refusal)
