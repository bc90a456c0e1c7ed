use Rattle.rejoin.proofs.Stretches.{reused-segments-are-segments, reuse-goes-on}
use Rattle.rejoin.proofs.laws.reused_segments_are_segments.Goals as goal

pub returns-clause-same : goal.returns-clause-same
returns-clause-same c = reused-segments-are-segments

pub returns-clause-on : goal.returns-clause-on
returns-clause-on c = reuse-goes-on
