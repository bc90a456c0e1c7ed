use Rattle.std.proofs.Common.{◌≡◌, List, arith, sym, subst, ap, map}
use Rattle.std.proofs.lemmas.List.{length-map}
use Rattle.std.specs.Arc.{arc_value}
use Rattle.scenarios.specs.PlanView.{plan_in}
use Rattle.checkpoints.specs.Nodes.{parts_of, IsMergeTreeOf, AreFrom}
use Rattle.checkpoints.specs.Segment.{SegmentView}
use Rattle.checkpoints.specs.RunView.{RunView}
use Rattle.checkpoints.proofs.Totals.{cut-few}
use Rattle.checkpoints.proofs.run.Run.of_reused.Goals as goal

pub of_reused-requires-clause-few : goal.of_reused-requires-clause-few
of_reused-requires-clause-few g c = rw c.as_slice.ensures.value (cut-few (plan_in c.args.plan) (map arc_value c.args.segments.items) c.scenario.ensures.sound c.requires.cut)

pub of_reused-requires-clause-old : goal.of_reused-requires-clause-old
of_reused-requires-clause-old g c =
    let olds : List SegmentView = map arc_value c.old.inside.segments.items in
    let segments : c.args.old.now.segments ≡ olds = sym (ap (λ (r : RunView). r.segments) c.old.view_is) in
    let from : AreFrom olds (map arc_value c.args.segments.items) c.args.places.now = subst (λ (ss : List SegmentView). AreFrom ss (map arc_value c.args.segments.items) c.args.places.now) segments c.requires.places in
    let long = length-map c.old.inside.segments.items arc_value in
    (olds, omega (arith, long, c.old.inside.segments.small), c.old.invariant.1, rw c.as_slice.ensures.value from)

pub tables_of-requires-clause-cut : goal.tables_of-requires-clause-cut
tables_of-requires-clause-cut g c =
    let merge_tree : IsMergeTreeOf (parts_of (map arc_value c.args.segments.items)) c.in_ok-merge_tree.merge_tree = rw c.as_slice.ensures.value at c.in_ok-merge_tree.ensures in
    (map arc_value c.args.segments.items, c.requires.cut, merge_tree)

pub invariant_of-result : goal.invariant_of-result
invariant_of-result g c = (record { plan = c.scenario.ensures.sound; cut = c.requires.cut; tables = c.in_ok-tables.ensures }, rw c.as_slice.ensures.value at c.in_ok-merge_tree.ensures)

pub returns-clause-sound : goal.returns-clause-sound
returns-clause-sound g c = record { plan = c.scenario.ensures.sound; cut = c.requires.cut; tables = c.in_ok-tables.ensures }
