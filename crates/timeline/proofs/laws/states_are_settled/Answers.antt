use Rattle.timeline.proofs.Sound.{each-state-is-sound}
use Rattle.timeline.proofs.Quiet.{each-state-is-settled}
use Rattle.timeline.proofs.laws.states_are_settled.Goals as goal

pub returns-clause-sound : goal.returns-clause-sound
returns-clause-sound c = each-state-is-sound

pub returns-clause-settled : goal.returns-clause-settled
returns-clause-settled c = each-state-is-settled
