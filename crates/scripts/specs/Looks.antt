-- What a look at a scenario's published run gives.
use Rattle.std.specs.Prelude.{ℕ, List, ◌++◌, codes}
use Rattle.report.specs.Pieces.{left}
use Rattle.report.specs.Side.{shown_line}
use Rattle.version_book.specs.declared.faults.ViewFault.{ViewFault}
use Rattle.version_book.specs.declared.faults.ViewFault.TheVariants as view
use Rattle.version_book.specs.declared.refusal.Refusal.{Refusal}
use Rattle.version_book.specs.declared.refusal.Refusal.TheVariants as why
use Rattle.version_book.specs.Names.{refusal_name, view_fault_name}
use Rattle.scripts.specs.declared.views.Beside.{Beside}
use Rattle.scripts.specs.declared.views.Beside.TheVariants as beside
use Rattle.scripts.specs.Lines.{refused, behind_line}

-- the line of a view that shows nothing
abbrev pub unseen_line : Refusal ViewFault → List ℕ
unseen_line (why.Fault (view.Behind seen found)) = behind_line seen found
unseen_line refusal = refused (refusal_name view_fault_name refusal)

-- ---- side by side

-- the line of a scenario of this name, by what is shown of it
abbrev pub beside_line : List ℕ → {A : Type 0} → Beside A → List ℕ
beside_line name (beside.Shown p) = shown_line name p.version p.run.tables.overall
beside_line name beside.NotYet = left 16 name ++ codes " not yet\n"
beside_line name beside.Behind = left 16 name ++ codes " behind\n"
