use Rattle.std.proofs.Common.{◌≡◌, ◌++◌, filter}
use Rattle.std.specs.List.{filter_map}
use Rattle.frames.specs.Frames.{stands_somewhere}
use Rattle.scenarios.specs.Plan.{job_numbered}
use Rattle.scenarios.specs.PlanView.{plan_in}
use Rattle.easy_rule.specs.Simulation.{start_of}
use Rattle.timeline.specs.Stretches.{waiting_stretches}
use Rattle.checkpoints.proofs.waiting_frame.add_numbers.Given as goal

abbrev pub invariant-loop-number : goal.invariant-loop-number
invariant-loop-number g l =
    l.made.items ++ filter stands_somewhere (waiting_stretches l.gap.seconds (filter_map (job_numbered ((plan_in l.plan).jobs)) l.number-iterator) (start_of l.gap.starts))
    ≡ l.fn.made.items ++ filter stands_somewhere (waiting_stretches l.gap.seconds (filter_map (job_numbered ((plan_in l.plan).jobs)) l.fn.numbers) (start_of l.gap.starts))
