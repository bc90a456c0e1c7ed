use Rattle.report.proofs.Joins.{joined, joined_as}
use Rattle.report.proofs.heading.push_heading.Goals as goal

pub returns : goal.returns
returns g c =
    joined _ _ _ (joined _ _ _ (joined _ _ _ (joined_as _ _ _ (joined _ _ _ c.in_ok-push_title.ensures c.in_ok-push.ensures.items) c.in_ok-extend_from_slice.ensures.items c.as_bytes.ensures.value) c.in_ok-push-2.ensures.items) c.in_ok-push_number.ensures) c.in_ok-push-3.ensures.items
