use Rattle.std.proofs.Common.{◌≡◌, ◌++◌, filter, map}
use Rattle.std.specs.List.{filter_map}
use Rattle.frames.specs.Frames.{stands_somewhere}
use Rattle.scenarios.specs.PlanView.{plan_in}
use Rattle.cluster_state.specs.Snapshot.{running_numbered}
use Rattle.timeline.specs.Stretches.{placed_stretch}
use Rattle.checkpoints.proofs.running_frame.add_numbers.Given as goal

abbrev pub invariant-loop-r : goal.invariant-loop-r
invariant-loop-r g l =
    l.made.items ++ filter stands_somewhere (map (placed_stretch l.gap.seconds) (filter_map (running_numbered ((plan_in l.plan).jobs)) l.r-iterator))
    ≡ l.fn.made.items ++ filter stands_somewhere (map (placed_stretch l.gap.seconds) (filter_map (running_numbered ((plan_in l.plan).jobs)) l.fn.numbers))
