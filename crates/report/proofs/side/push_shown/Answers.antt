use Rattle.std.proofs.Common.{ap}
use Rattle.report.specs.Pieces.{left}
use Rattle.report.proofs.Joins.{begun, joined}
use Rattle.report.proofs.side.push_shown.Goals as goal

pub returns : goal.returns
returns g c =
    let named = begun _ _ c.in_ok-push_left.ensures (ap (left 16) c.as_bytes.ensures.value) in
    joined _ _ _ (joined _ _ _ (joined _ _ _ (joined _ _ _ (joined _ _ _ (joined _ _ _ (joined _ _ _ (joined _ _ _ named c.in_ok-push_cell.ensures) c.in_ok-push_cell-2.ensures) c.in_ok-push_cell-3.ensures) c.in_ok-push.ensures.items) c.in_ok-push_thousandths.ensures) c.in_ok-push-2.ensures.items) c.in_ok-push_percent.ensures) c.in_ok-push-3.ensures.items
