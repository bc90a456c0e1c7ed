use Rattle.std.proofs.Common.{◌≡◌, map, take}
use Rattle.metrics.specs.Tables.{user_row_of}
use Rattle.metrics.proofs.tables.user_rows.Given as goal

abbrev pub invariant-users : goal.invariant-users
invariant-users g l = l.rows.items ≡ map user_row_of (take l.user-index l.users)
