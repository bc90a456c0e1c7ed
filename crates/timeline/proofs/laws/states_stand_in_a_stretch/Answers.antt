use Rattle.timeline.proofs.Between.{running-stand-in-a-stretch, waiting-stand-in-a-stretch}
use Rattle.timeline.proofs.laws.states_stand_in_a_stretch.Goals as goal

pub returns-clause-waiting : goal.returns-clause-waiting
returns-clause-waiting c = waiting-stand-in-a-stretch

pub returns-clause-running : goal.returns-clause-running
returns-clause-running c = running-stand-in-a-stretch
