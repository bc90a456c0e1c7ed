use Rattle.timeline.proofs.Quiet.{only-ends-unsettle}
use Rattle.timeline.proofs.laws.only_ends_unsettle.Goals as goal

pub returns : goal.returns
returns c = only-ends-unsettle
