use Rattle.rejoin.proofs.Pieces.{chain-in, segment-added}
use Rattle.rejoin.proofs.patch.reuse.Goals as goal

pub reuse-requires : goal.reuse-requires
reuse-requires g c = chain-in _ c.args.change.now.is c.args.patch.now.segments c.plan.ensures.plan c.requires.chain

pub returns-clause-segments : goal.returns-clause-segments
returns-clause-segments g c = segment-added _ c.args.change.now.is c.args.patch.now.segments c.reuse.new.self _ c.plan.ensures.plan c.in_ok-reuse.ensures
