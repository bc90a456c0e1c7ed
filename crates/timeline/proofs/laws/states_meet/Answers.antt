use Rattle.timeline.proofs.Meeting.{each-has-met, snapshots-meet, states-meet}
use Rattle.timeline.proofs.laws.states_meet.Goals as goal

pub returns-clause-others : goal.returns-clause-others
returns-clause-others c = states-meet

pub returns-clause-whole : goal.returns-clause-whole
returns-clause-whole c = snapshots-meet

pub returns-clause-each : goal.returns-clause-each
returns-clause-each c = each-has-met
