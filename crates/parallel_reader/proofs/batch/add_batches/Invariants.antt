use Rattle.std.proofs.Common.{◌≡◌, ℕ, ◌+◌, ◌*◌, ◌≤◌, List, ◌++◌, length, Ok}
use Rattle.swf_text.specs.Text.{lines}
use Rattle.swf_text.specs.Reading.{with_lines}
use Rattle.parallel_reader.specs.Adding.{texts, read_texts}
use Rattle.parallel_reader.proofs.batch.add_batches.Given as goal

abbrev pub invariant-batches : goal.invariant-batches
invariant-batches g l = record {
  front : List (List ℕ);
  whole : lines l.bytes ≡ front ++ (texts l.ready.lines.items ++ lines l.rest);
  place : l.line ≡ l.count + 1 + length front;
  done : with_lines (l.count + 1) l.fn.text front ≡ Ok l.text;
  read : l.ready.readings.items ≡ read_texts l.ready.lines.items;
  within : l.line + length l.ready.lines.items + length l.rest ≤ length l.bytes + l.count + 1;
}

abbrev pub decreases-batches : goal.decreases-batches
decreases-batches g l = 2 * length l.rest + length l.ready.lines.items
