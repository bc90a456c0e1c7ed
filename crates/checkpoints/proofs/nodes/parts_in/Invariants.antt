use Rattle.std.proofs.Common.{◌≡◌, map, take}
use Rattle.checkpoints.specs.Nodes.{node_parts}
use Rattle.checkpoints.proofs.nodes.parts_in.Given as goal

abbrev pub invariant-loop-node : goal.invariant-loop-node
invariant-loop-node g l = map (λ part. part.now) l.parts.items ≡ node_parts (take l.node-index l.nodes)
