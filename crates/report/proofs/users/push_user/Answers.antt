use Rattle.std.proofs.Common.{rules, w64}
use mir.Val.{SFits}
use Rattle.std.proofs.lemmas.Int.{to_z-of_z}
use Rattle.report.proofs.Joins.{joined}
use Rattle.report.proofs.users.push_user.Goals as goal

pub returns : goal.returns
returns g c =
    let fits : SFits w64 c.args.row.now.user = search rules in
    let user = rw (to_z-of_z w64 c.args.row.now.user fits) at c.in_ok-push_aligned.ensures in
    joined _ _ _ (joined _ _ _ (joined _ _ _ (joined _ _ _ (joined _ _ _ (joined _ _ _ user c.in_ok-push_cell.ensures) c.in_ok-push_cell-2.ensures) c.in_ok-push.ensures.items) c.in_ok-push_thousandths.ensures) c.in_ok-push_cell-3.ensures) c.in_ok-push-2.ensures.items
