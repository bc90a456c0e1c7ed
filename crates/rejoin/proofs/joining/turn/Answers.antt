use Rattle.rejoin.proofs.Onward.{behind-of, next-of, working-of}
use Rattle.rejoin.proofs.joining.turn.Goals as goal

pub follow-requires-clause-behind : goal.follow-requires-clause-behind
follow-requires-clause-behind g c = (c.args.spacing, behind-of c.args.change.now c.args.spacing c.args.at c.args.patch.now c.requires.here c.if-patch.true)

pub reach-requires-clause-working : goal.reach-requires-clause-working
reach-requires-clause-working g c = working-of c.args.change.now c.args.spacing c.args.at c.args.patch.now c.requires.here c.if-patch.false

pub returns-then-patch : goal.returns-then-patch
returns-then-patch g c = record {
  next =
      next-of c.args.change.now c.args.spacing c.args.at c.args.patch.now c.follow.new.patch c.follow.result c.follow.ensures.next
      (behind-of c.args.change.now c.args.spacing c.args.at c.args.patch.now c.requires.here c.if-patch.true);
}
