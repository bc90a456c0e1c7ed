use Rattle.timeline.proofs.Starting.{starts-are-running-jobs}
use Rattle.timeline.proofs.laws.starts_are_running_jobs.Goals as goal

pub returns : goal.returns
returns c = starts-are-running-jobs
