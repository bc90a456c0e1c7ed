use Rattle.std.proofs.Common.{◌∙◌, ap, sym, List}
use Rattle.std.specs.Arc.{arc_value}
use Rattle.easy_rule.specs.declared.start.Start.{Start}
use Rattle.easy_rule.specs.Simulation.{start_of}
use Rattle.checkpoints.specs.Segment.{SegmentView}
use Rattle.checkpoints.proofs.Lookups.{found-here, found-later}
use Rattle.checkpoints.proofs.schedule.start_in.Goals as goal

pub returns-then-is_some : goal.returns-then-is_some
returns-then-is_some g c =
    let e = c.find_start-start.ensures ∙ ap (λ (xs : List Start). start_of xs c.args.number) (c.starts.ensures ∙ ap (λ (s : SegmentView). s.starts) (c.deref.ensures ∙ ap arc_value c.segment-item.is)) in
    found-here arc_value c.args.number c.args.segments.now c.loop-segment.segment-index c.segment-item.result _ _ c.loop-segment-test.true e (sym c.is_some.ensures ∙ c.if-is_some.true) c.loop-segment.invariant

pub loop-segment-preserved : goal.loop-segment-preserved
loop-segment-preserved g c =
    let e = c.find_start-start.ensures ∙ ap (λ (xs : List Start). start_of xs c.args.number) (c.starts.ensures ∙ ap (λ (s : SegmentView). s.starts) (c.deref.ensures ∙ ap arc_value c.segment-item.is)) in
    found-later arc_value c.args.number c.args.segments.now c.loop-segment.segment-index c.segment-item.result _ _ c.loop-segment-test.true e (sym c.is_some.ensures ∙ c.if-is_some.false) c.loop-segment.invariant
