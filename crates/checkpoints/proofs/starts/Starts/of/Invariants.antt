use Rattle.std.proofs.Common.{◌≡◌, ℕ, map, take}
use Rattle.std.specs.Arc.{arc_value}
use Rattle.easy_rule.specs.Simulation.{start_of}
use Rattle.checkpoints.specs.Cut.{all_starts}
use Rattle.checkpoints.specs.Starts.{known_start}
use Rattle.checkpoints.proofs.starts.Starts.of.Given as goal

abbrev pub invariant-loop-segment : goal.invariant-loop-segment
invariant-loop-segment g l = (n : ℕ) → known_start l.noting n ≡ start_of (all_starts (map arc_value (take l.segment-index l.segments))) n
