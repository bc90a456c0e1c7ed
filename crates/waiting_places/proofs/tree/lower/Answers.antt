use Rattle.std.proofs.Common.{arith, subst, sym}
use Rattle.waiting_places.specs.Bounds.{FrontierView, Keeps}
use Rattle.waiting_places.proofs.Lowered.{one_up, to_the_top}
use Rattle.waiting_places.proofs.tree.lower.Goals as goal

pub loop-node-preserved : goal.loop-node-preserved
loop-node-preserved c =
    let i = c.loop-node.invariant in
    let low = i.low in
    let len = i.len in
    let short = c.requires in
    one_up c.args.nodes.now c.loop-node.nodes c.args.frontier.now c.args.leaf c.loop-node.node i c.index-nodes-node.result c.lower.new.self (omega (arith, low, len, short)) c.index-nodes-node.is (subst (λ (l : FrontierView). Keeps l c.lower.new.self) (sym c.index-nodes-node.is) c.lower.ensures.kept) c.lower.ensures.met

pub returns-clause-met : goal.returns-clause-met
returns-clause-met c = to_the_top c.args.nodes.now c.loop-node.nodes c.args.frontier.now c.args.leaf c.loop-node.node c.loop-node.invariant (omega (arith, c.loop-node-test.false))
