use Rattle.std.proofs.Common.{◌≡◌, ◌+◌, ◌≤◌, length}
use Rattle.swf_text.specs.Line.{fields}
use Rattle.swf_text.proofs.scan.field_count.Given as goal

abbrev pub invariant-loop-after : goal.invariant-loop-after
invariant-loop-after l = record {
  counted : l.count + length (fields l.rest) ≡ length (fields l.line);
  within : l.count + length l.rest ≤ length l.line;
}

abbrev pub decreases-loop-after : goal.decreases-loop-after
decreases-loop-after l = length l.rest
