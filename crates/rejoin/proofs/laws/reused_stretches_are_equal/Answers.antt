use Rattle.rejoin.proofs.Stretches.{reused-stretches-are-equal}
use Rattle.rejoin.proofs.laws.reused_stretches_are_equal.Goals as goal

pub returns : goal.returns
returns c = reused-stretches-are-equal
