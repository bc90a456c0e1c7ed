use Rattle.std.proofs.Common.{◌≡◌, length}
use Rattle.scenarios.specs.Plan.{jobs_of}
use Rattle.scenarios.proofs.jobs.next_job.Given as goal

abbrev pub invariant-entries : goal.invariant-entries
invariant-entries g l = jobs_of l.entries l.scenario ≡ jobs_of l.fn.entries l.scenario

abbrev pub decreases-entries : goal.decreases-entries
decreases-entries g l = length l.entries
