use Rattle.report.proofs.Joins.{joined}
use Rattle.report.proofs.days.push_day.Goals as goal

pub returns : goal.returns
returns g c =
    joined _ _ _ (joined _ _ _ (joined _ _ _ (joined _ _ _ c.in_ok-push_aligned.ensures c.in_ok-push_cell.ensures) c.in_ok-push.ensures.items) c.in_ok-push_percent.ensures) c.in_ok-push-2.ensures.items
