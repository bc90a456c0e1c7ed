use Rattle.std.proofs.Common.{◌≡◌, map}
use Rattle.std.specs.Arc.{arc_value}
use Rattle.easy_rule.specs.Simulation.{start_of}
use Rattle.checkpoints.specs.Cut.{all_starts}
use Rattle.checkpoints.proofs.Lookups.{starts-from}
use Rattle.checkpoints.proofs.schedule.start_in.Given as goal

abbrev pub invariant-loop-segment : goal.invariant-loop-segment
invariant-loop-segment g l = start_of (starts-from arc_value l.segments l.segment-index) l.number ≡ start_of (all_starts (map arc_value l.segments)) l.number
