use Rattle.timeline.proofs.Quiet.{quiet-seconds-change-nothing}
use Rattle.timeline.proofs.laws.quiet_seconds_change_nothing.Goals as goal

pub returns : goal.returns
returns c = quiet-seconds-change-nothing
