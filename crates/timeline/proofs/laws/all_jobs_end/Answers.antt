use Rattle.timeline.proofs.Bound.{all-have-ended, all-end-by-the-bound}
use Rattle.timeline.proofs.Seconds.{all-start-by-the-bound}
use Rattle.timeline.proofs.Events.{events-end-by-the-bound}
use Rattle.timeline.proofs.laws.all_jobs_end.Goals as goal

pub returns-clause-state : goal.returns-clause-state
returns-clause-state c = all-have-ended

pub returns-clause-ends : goal.returns-clause-ends
returns-clause-ends c = all-end-by-the-bound

pub returns-clause-starts : goal.returns-clause-starts
returns-clause-starts c = all-start-by-the-bound

pub returns-clause-events : goal.returns-clause-events
returns-clause-events c = events-end-by-the-bound
