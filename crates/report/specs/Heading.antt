-- The first line of a report.
use Rattle.std.specs.Prelude.{ℕ, List, ◌++◌, codes}
use Rattle.std.specs.Fmt.{decimal}

-- what the report tells, of which scenario, at which version of the log
abbrev pub title : List ℕ → List ℕ → ℕ → List ℕ
title kind name version = kind ++ codes " " ++ name ++ codes " version " ++ decimal version

-- a title, and how many lines of this kind follow
abbrev pub heading : List ℕ → List ℕ → ℕ → List ℕ → ℕ → List ℕ
heading kind name version counted count = title kind name version ++ codes " " ++ counted ++ codes " " ++ decimal count ++ codes "\n"
