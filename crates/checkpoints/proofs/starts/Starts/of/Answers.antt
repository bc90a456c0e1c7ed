use Rattle.std.proofs.Common.{ap, ◌∙◌}
use Rattle.std.specs.Arc.{arc_value}
use Rattle.checkpoints.specs.Segment.{SegmentView}
use Rattle.checkpoints.proofs.Known.{noted-segment}
use Rattle.checkpoints.proofs.starts.Starts.of.Goals as goal

pub loop-segment-init : goal.loop-segment-init
loop-segment-init g c = λ n. c.in_ok-noting.ensures n

pub loop-segment-preserved : goal.loop-segment-preserved
loop-segment-preserved g c = λ n. noted-segment arc_value n c.loop-segment.segment-index c.args.segments.now c.segment-item.result _ _ _ c.loop-segment-test.true c.segment-item.is (c.starts.ensures ∙ ap (λ (s : SegmentView). s.starts) c.deref.ensures) (c.loop-segment.invariant n) (c.in_ok-note_all.ensures n)
