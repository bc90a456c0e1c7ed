use Rattle.std.proofs.Common.{◌≡◌, ℕ, List, ◌++◌, ◌≤◌, length}
use Rattle.swf_text.specs.Text.{lines}
use Rattle.parallel_reader.specs.Jobs.{Below, AddsAll, Extends}
use Rattle.parallel_reader.proofs.rising.add_lines.Given as goal

abbrev pub invariant-portions : goal.invariant-portions
invariant-portions g l = record {
  front : List (List ℕ);
  whole : lines l.bytes ≡ front ++ lines l.rest;
  within : length l.rest ≤ length l.bytes;
  kept : Extends l.fn.entries.items l.entries.items;
  below : Below l.next l.entries.items;
  added : AddsAll l.fn.entries.items front l.entries.items;
}

abbrev pub decreases-portions : goal.decreases-portions
decreases-portions g l = length l.rest
