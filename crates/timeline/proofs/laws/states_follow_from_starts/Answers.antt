use Rattle.timeline.proofs.Closed.{numbers-stand-until-they-end, starts-are-final, states-follow-from-starts}
use Rattle.timeline.proofs.laws.states_follow_from_starts.Goals as goal

pub returns-clause-state : goal.returns-clause-state
returns-clause-state c = states-follow-from-starts

pub returns-clause-starts : goal.returns-clause-starts
returns-clause-starts c = starts-are-final

pub returns-clause-stands : goal.returns-clause-stands
returns-clause-stands c = numbers-stand-until-they-end
