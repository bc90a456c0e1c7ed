use Rattle.timeline.proofs.Stretched.{all-starts-tell, later-starts-tell, states-stand-in-stretches}
use Rattle.timeline.proofs.laws.states_stand_in_stretches.Goals as goal

pub returns-clause-states : goal.returns-clause-states
returns-clause-states c = states-stand-in-stretches

pub returns-clause-all : goal.returns-clause-all
returns-clause-all c = all-starts-tell

pub returns-clause-later : goal.returns-clause-later
returns-clause-later c = later-starts-tell
