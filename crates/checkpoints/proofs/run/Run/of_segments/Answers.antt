use Rattle.std.proofs.Common.{map}
use Rattle.std.specs.Arc.{arc_value}
use Rattle.scenarios.specs.PlanView.{plan_in}
use Rattle.checkpoints.specs.Nodes.{parts_of, IsMergeTreeOf}
use Rattle.checkpoints.proofs.Totals.{cut-few}
use Rattle.checkpoints.proofs.run.Run.of_segments.Goals as goal

pub of-requires : goal.of-requires
of-requires g c = rw c.as_slice.ensures.value (cut-few (plan_in c.args.plan) (map arc_value c.args.segments.items) c.scenario.ensures.sound c.requires)

pub tables_anew-requires : goal.tables_anew-requires
tables_anew-requires g c =
    let merge_tree : IsMergeTreeOf (parts_of (map arc_value c.args.segments.items)) c.in_ok-merge_tree.merge_tree = rw c.as_slice.ensures.value at c.in_ok-merge_tree.ensures in
    (map arc_value c.args.segments.items, c.requires, merge_tree)

pub invariant_of-result : goal.invariant_of-result
invariant_of-result g c = (record { plan = c.scenario.ensures.sound; cut = c.requires; tables = c.in_ok-tables.ensures }, rw c.as_slice.ensures.value at c.in_ok-merge_tree.ensures)

pub returns-clause-sound : goal.returns-clause-sound
returns-clause-sound g c = record { plan = c.scenario.ensures.sound; cut = c.requires; tables = c.in_ok-tables.ensures }
