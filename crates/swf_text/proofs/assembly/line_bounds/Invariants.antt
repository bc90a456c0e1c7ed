use Rattle.std.proofs.Common.{◌≡◌, ◌+◌, ◌-◌, ◌≤◌, length, ◌++◌}
use Rattle.swf_text.specs.Text.{lines}
use Rattle.swf_text.specs.Bounds.{bounds_from, bounds_of}
use Rattle.swf_text.proofs.assembly.line_bounds.Given as goal

abbrev pub invariant-loop-rest : goal.invariant-loop-rest
invariant-loop-rest g l = record {
  bounds : l.bounds.items ++ bounds_from l.start (lines l.rest) ≡ bounds_of l.bytes;
  left : length l.rest ≡ length l.bytes - l.start;
  within : l.start ≤ length l.bytes + 1;
}

abbrev pub decreases-loop-rest : goal.decreases-loop-rest
decreases-loop-rest g l = length l.rest
