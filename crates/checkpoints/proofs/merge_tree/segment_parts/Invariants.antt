use Rattle.std.proofs.Common.{◌≡◌, map, take}
use Rattle.std.specs.Arc.{arc_value}
use Rattle.checkpoints.specs.Nodes.{parts_of}
use Rattle.checkpoints.proofs.merge_tree.segment_parts.Given as goal

abbrev pub invariant-loop-segment : goal.invariant-loop-segment
invariant-loop-segment g l = map (λ part. part.now) l.parts.items ≡ parts_of (map arc_value (take l.segment-index l.segments))
