use Rattle.std.proofs.Common.{◌-◌, ◌≤◌, List, map, drop, length}
use Rattle.metrics.specs.Part.{PartSums}
use Rattle.checkpoints.specs.Nodes.{node_parts, ArePartsFrom}
use Rattle.checkpoints.proofs.Levels.{Adding}
use Rattle.checkpoints.proofs.nodes.add_nodes.Given as goal

abbrev pub invariant-nodes : goal.invariant-nodes
invariant-nodes g l = record {
  within : l.at ≤ length l.parts;
  nodes : Adding (map (λ p. p.now) l.fn.parts) (map (λ p. p.now) (drop l.at l.parts)) l.fn.so_far.nodes.items l.so_far.nodes.items;
  places : (olds : List PartSums) → ArePartsFrom olds (node_parts l.fn.so_far.nodes.items) l.fn.so_far.places.items → ArePartsFrom olds (node_parts l.so_far.nodes.items) l.so_far.places.items;
}

abbrev pub decreases-nodes : goal.decreases-nodes
decreases-nodes g l = length l.parts - l.at
