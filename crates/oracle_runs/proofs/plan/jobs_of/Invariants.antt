use Rattle.std.proofs.Common.{take}
use Rattle.oracle_runs.proofs.Collected.{IsCollected}
use Rattle.oracle_runs.proofs.plan.jobs_of.Given as goal

abbrev pub invariant-loop-entry : goal.invariant-loop-entry
invariant-loop-entry g l = IsCollected (take l.entry-index l.entries) l.scenario l.jobs.items
