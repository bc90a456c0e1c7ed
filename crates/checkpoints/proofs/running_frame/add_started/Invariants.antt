use Rattle.std.proofs.Common.{◌≡◌, ◌++◌, filter, map, drop}
use Rattle.frames.specs.Frames.{stands_somewhere}
use Rattle.scenarios.specs.PlanView.{plan_in}
use Rattle.timeline.specs.Stretches.{placed_stretch, started_of}
use Rattle.checkpoints.proofs.running_frame.add_started.Given as goal

abbrev pub invariant-loop-start : goal.invariant-loop-start
invariant-loop-start g l =
    l.made.items ++ filter stands_somewhere (map (placed_stretch l.gap.seconds) (started_of ((plan_in l.plan).jobs) (drop l.start-index l.starts)))
    ≡ l.fn.made.items ++ filter stands_somewhere (map (placed_stretch l.gap.seconds) (started_of ((plan_in l.plan).jobs) l.starts))
