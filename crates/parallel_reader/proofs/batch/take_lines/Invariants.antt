use Rattle.std.proofs.Common.{◌≡◌, ◌+◌, ◌≤◌, ◌++◌, length}
use Rattle.swf_text.specs.Text.{lines}
use Rattle.parallel_reader.specs.Adding.{texts}
use Rattle.parallel_reader.proofs.batch.take_lines.Given as goal

abbrev pub invariant-loop-rest : goal.invariant-loop-rest
invariant-loop-rest g l = record {
  lines : texts l.taken.items ++ lines l.rest ≡ lines l.bytes;
  count : length l.taken.items + length l.rest ≤ length l.bytes;
}

abbrev pub decreases-loop-rest : goal.decreases-loop-rest
decreases-loop-rest g l = length l.rest
