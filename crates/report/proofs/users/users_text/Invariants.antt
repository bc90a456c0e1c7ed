use Rattle.std.proofs.Common.{◌≡◌, ◌++◌, drop}
use Rattle.std.specs.List.{flat_map}
use Rattle.report.specs.Users.{user_line, users_text}
use Rattle.report.proofs.users.users_text.Given as goal

abbrev pub invariant-lines : goal.invariant-lines
invariant-lines g l = l.text.items ++ flat_map user_line (drop l.row-index l.rows) ≡ users_text l.fn.name l.fn.version l.rows
