use Rattle.timeline.proofs.Once.{each-job-starts-once, none-starts-early}
use Rattle.timeline.proofs.laws.each_job_starts_once.Goals as goal

pub returns-clause-once : goal.returns-clause-once
returns-clause-once c = each-job-starts-once

pub returns-clause-not_early : goal.returns-clause-not_early
returns-clause-not_early c = none-starts-early
