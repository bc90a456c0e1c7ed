use Rattle.waiting_places.proofs.Lowered.{IsLoweredTo}
use Rattle.waiting_places.proofs.tree.lower.Given as goal

abbrev pub invariant-loop-node : goal.invariant-loop-node
invariant-loop-node l = IsLoweredTo l.initial.nodes l.nodes l.frontier l.leaf l.node

abbrev pub decreases-loop-node : goal.decreases-loop-node
decreases-loop-node l = l.node
