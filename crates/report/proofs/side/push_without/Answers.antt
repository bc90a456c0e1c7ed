use Rattle.std.proofs.Common.{ap}
use Rattle.report.specs.Pieces.{left}
use Rattle.report.proofs.Joins.{begun, joined_as}
use Rattle.report.proofs.side.push_without.Goals as goal

pub returns : goal.returns
returns g c =
    joined_as _ _ _ (begun _ _ c.in_ok-push_left.ensures (ap (left 16) c.as_bytes.ensures.value)) c.in_ok-extend_from_slice.ensures.items c.as_bytes-2.ensures.value
