use Rattle.std.proofs.Common.{◌≡◌, ◌++◌, filter}
use Rattle.frames.specs.Frames.{stands_somewhere}
use Rattle.scenarios.specs.PlanView.{plan_in}
use Rattle.easy_rule.specs.Simulation.{start_of}
use Rattle.timeline.specs.Stretches.{coming_between, waiting_stretches}
use Rattle.event_loop.specs.Upcoming.{NonFalling}
use Rattle.checkpoints.proofs.Walks.{until}
use Rattle.checkpoints.proofs.waiting_frame.add_coming.Given as goal

abbrev pub invariant-loop-job : goal.invariant-loop-job
invariant-loop-job g l = record {
  made : l.made.items ++ filter stands_somewhere (waiting_stretches l.gap.seconds (until l.until l.job-iterator) (start_of l.gap.starts))
      ≡ l.fn.made.items ++ filter stands_somewhere (waiting_stretches l.gap.seconds (coming_between ((plan_in l.plan).jobs) l.from l.until) (start_of l.gap.starts));
  falls : NonFalling l.job-iterator;
}
