use Rattle.std.proofs.Common.{length}
use Rattle.scenarios.specs.PlanView.{plan_in}
use Rattle.event_loop.proofs.Rows.{Taking}
use Rattle.event_loop.proofs.arrivals.fill.Given as goal

abbrev pub invariant-jobs : goal.invariant-jobs
invariant-jobs g l = Taking l.second l.last l.row.items l.upcoming (plan_in l.plan).jobs

abbrev pub decreases-jobs : goal.decreases-jobs
decreases-jobs g l = length l.upcoming
