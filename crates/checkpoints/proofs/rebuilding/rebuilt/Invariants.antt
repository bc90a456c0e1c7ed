use Rattle.std.proofs.Common.{map, drop}
use Rattle.checkpoints.specs.Nodes.{node_parts, ArePartsFrom}
use Rattle.checkpoints.specs.Rebuilding.{IsRebuilding}
use Rattle.checkpoints.proofs.rebuilding.rebuilt.Given as goal

abbrev pub invariant-loop-at : goal.invariant-loop-at
invariant-loop-at g l = record {
  nodes : IsRebuilding (map (λ p. p.now) l.parts) l.places (drop l.at l.old) l.so_far.level.nodes.items l.so_far.count l.so_far.place l.so_far.first;
  places : ArePartsFrom (node_parts l.old) (node_parts l.so_far.level.nodes.items) l.so_far.level.places.items;
}
