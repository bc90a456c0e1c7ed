use Rattle.std.proofs.Common.{subst}
use Rattle.scenarios.specs.Plan.{Plan}
use Rattle.scenarios.specs.PlanView.{plan_in}
use Rattle.checkpoints.specs.Pieces.{all_in, segment_of, IsNotedIn}
use Rattle.checkpoints.proofs.Worked.{cutting-piece, cutting-down, cutting-chain}
use Rattle.checkpoints.proofs.simulation.add_next.Goals as goal

pub next_piece-requires-clause-going : goal.next_piece-requires-clause-going
next_piece-requires-clause-going g c = c.requires.cut.going

pub add-requires-clause-chain : goal.add-requires-clause-chain
add-requires-clause-chain g c =
    let plan : Plan = plan_in c.args.plan.now in
    cutting-chain plan c.args.spacing c.args.engine.now c.next_piece.new.engine (all_in plan c.args.segments.now) c.in_ok-piece.piece c.requires.cut c.in_ok-piece.ensures.spans

pub add-requires-clause-noted : goal.add-requires-clause-noted
add-requires-clause-noted g c = subst (λ (q : Plan). IsNotedIn q c.in_ok-piece.piece) c.requires.cut.same c.in_ok-piece.ensures.noted

pub returns-clause-cut : goal.returns-clause-cut
returns-clause-cut g c =
    let plan : Plan = plan_in c.args.plan.now in
    cutting-piece plan c.args.spacing c.args.engine.now c.next_piece.new.engine (all_in plan c.args.segments.now) (all_in plan c.add.new.self) c.in_ok-piece.piece c.requires.cut
    c.in_ok-piece.ensures.run c.in_ok-piece.ensures.spans c.in_ok-piece.ensures.events c.in_ok-add.ensures

pub returns-clause-nearer : goal.returns-clause-nearer
returns-clause-nearer g c =
    let plan : Plan = plan_in c.args.plan.now in
    cutting-down plan c.args.engine.now c.next_piece.new.engine (segment_of c.args.engine.now.plan c.in_ok-piece.piece) c.scenario.ensures.sound c.requires.cut.same c.in_ok-piece.ensures.spans
