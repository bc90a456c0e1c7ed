use Rattle.report.specs.Users.{user_line}
use Rattle.report.proofs.Joins.{next_line}
use Rattle.report.proofs.users.users_text.Goals as goal

pub lines-preserved : goal.lines-preserved
lines-preserved g c = next_line user_line c.users-rows.result.now c.lines.row-index _ _ _ _ c.lines-test.true c.lines.invariant c.in_ok-push_user.ensures
