-- The report on scenarios side by side.
use Rattle.std.specs.Prelude.{ℕ, List, ◌++◌, length, codes}
use Rattle.std.specs.List.{flat_map}
use Rattle.std.specs.Fmt.{decimal}
use Rattle.std.specs.Arc.{arc_value}
use Rattle.metrics.specs.declared.rows.Overall.{Overall}
use Rattle.report.specs.Pieces.{left, cell, thousandths, percent}
use Rattle.report.specs.declared.side.SideLine.{SideLine}
use Rattle.report.specs.declared.side.SideLine.TheVariants.{Shown, NotYet, Behind}

-- a scenario that is shown: its name, the version, how many jobs, the mean wait, the mean slowdown, and the utilization
abbrev pub shown_line : List ℕ → ℕ → Overall → List ℕ
shown_line name version all =
    left 16 name ++ cell 8 version ++ cell 8 all.jobs ++ cell 10 all.wait ++ codes " " ++ thousandths 8 all.slowdown
    ++ codes " " ++ percent 3 all.utilization ++ codes "\n"

-- the line of a scenario: its run, or why none is shown
abbrev pub side_line : {A : Type 0} → SideLine A → List ℕ
side_line (Shown name version run) = shown_line name.now version (arc_value run).tables.overall
side_line (NotYet name) = left 16 name.now ++ codes " not yet\n"
side_line (Behind name) = left 16 name.now ++ codes " behind\n"

-- a line for each scenario
abbrev pub side_text : {A : Type 0} → List (SideLine A) → List ℕ
side_text lines = codes "side scenarios " ++ decimal (length lines) ++ codes "\n" ++ flat_map side_line lines
