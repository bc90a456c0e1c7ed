use Rattle.std.proofs.Common.{◌∙◌, Some, ap}
use Rattle.std.specs.Arc.{arc_value}
use Rattle.checkpoints.proofs.Gaps.{last-seen}
use Rattle.checkpoints.proofs.closing.last_of.Goals as goal

pub returns : goal.returns
returns g c =
    ap Some c.deref.ensures ∙ last-seen arc_value c.args.segments.now (Some c.in_ok-segment.segment.now) c.in_ok-segment.ensures.value
