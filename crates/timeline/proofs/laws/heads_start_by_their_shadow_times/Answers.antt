use Rattle.timeline.proofs.Promises.{shadow-times-never-rise, heads-start-by-their-shadow-times}
use Rattle.timeline.proofs.laws.heads_start_by_their_shadow_times.Goals as goal

pub returns-clause-never_rise : goal.returns-clause-never_rise
returns-clause-never_rise c = shadow-times-never-rise

pub returns-clause-starts : goal.returns-clause-starts
returns-clause-starts c = heads-start-by-their-shadow-times
