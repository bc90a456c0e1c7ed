use Rattle.std.proofs.Common.{length}
use Rattle.oracle_runs.proofs.rule.+shortest.Given as goal

abbrev pub decreases-shortest : goal.decreases-shortest
decreases-shortest l = length l.jobs.now
