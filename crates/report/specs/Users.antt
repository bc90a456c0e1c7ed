-- The report on users.
use Rattle.std.specs.Prelude.{ℕ, List, ◌++◌, length, codes}
use Rattle.std.specs.List.{flat_map}
use Rattle.std.specs.Fmt.{signed_decimal}
use Rattle.metrics.specs.declared.rows.UserRow.{UserRow}
use Rattle.report.specs.Pieces.{right, cell, thousandths}
use Rattle.report.specs.Heading.{heading}

-- the user, how many jobs, the mean wait, the mean slowdown, and processor-seconds
abbrev pub user_line : UserRow → List ℕ
user_line row =
    right 8 (signed_decimal row.user) ++ cell 8 row.jobs ++ cell 10 row.wait ++ codes " " ++ thousandths 8 row.slowdown
    ++ cell 16 row.busy ++ codes "\n"

-- a line for each user
abbrev pub users_text : List ℕ → ℕ → List UserRow → List ℕ
users_text name version rows = heading (codes "users") name version (codes "count") (length rows) ++ flat_map user_line rows
