use Rattle.frames.proofs.Splits.{without-empty}
use Rattle.frames.proofs.laws.empty_stretches_stand_nowhere.Goals as goal

pub returns : goal.returns
returns g c = without-empty
