use Rattle.std.proofs.Common.{◌∙◌, ap}
use Rattle.checkpoints.specs.Pieces.{all_in}
use Rattle.rejoin.proofs.Pieces.{chain-in}
use Rattle.rejoin.proofs.joining.settled.Goals as goal

pub finish-requires : goal.finish-requires
finish-requires g c = chain-in _ c.args.change.now.is c.args.segments c.plan.ensures.plan c.requires

pub returns-clause-segments : goal.returns-clause-segments
returns-clause-segments g c = c.in_ok-segments.ensures ∙ ap (λ q. all_in q c.args.segments) c.plan.ensures.plan
