use Rattle.std.proofs.Common.{◌≡◌, ◌+◌, ◌≤◌, length}
use Rattle.swf_text.specs.Text.{lines}
use Rattle.parallel_reader.proofs.front.count_lines.Given as goal

abbrev pub invariant-lines : goal.invariant-lines
invariant-lines l = record {
  counted : l.count + length (lines l.rest) ≡ length (lines l.bytes);
  bound : l.count + length l.rest ≤ length l.bytes;
}

abbrev pub decreases-lines : goal.decreases-lines
decreases-lines l = length l.rest
