use Rattle.std.proofs.Common.{◌≡◌, ℕ, ◌<◌, [], length, slice_index_or}
use Rattle.swf_text.specs.Text.{lines}
use Rattle.parallel_reader.specs.declared.portion.JobLines.{JobLines}
use Rattle.parallel_reader.specs.Adding.{texts}
use Rattle.parallel_reader.specs.Jobs.{IsReadOf}
use Rattle.parallel_reader.proofs.piece.read_portions.Given as goal

abbrev pub invariant-loop-place : goal.invariant-loop-place
invariant-loop-place l = record {
  same : length l.jobs ≡ length l.portions;
  read : (place : ℕ) (d : JobLines) → place < l.place → IsReadOf (lines (slice_index_or (texts l.portions) place [])) (slice_index_or l.jobs place d).jobs (slice_index_or l.jobs place d).count;
}
