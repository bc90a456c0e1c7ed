use Rattle.std.proofs.Common.{◌≡◌, ◌++◌, length}
use Rattle.swf_text.specs.Text.{lines}
use Rattle.parallel_reader.specs.Adding.{texts}
use Rattle.parallel_reader.specs.Jobs.{portion_lines}
use Rattle.parallel_reader.proofs.piece.portions_of.Given as goal

abbrev pub invariant-portions : goal.invariant-portions
invariant-portions g l = portion_lines (texts l.portions.items) ++ lines l.rest ≡ lines l.bytes

abbrev pub decreases-portions : goal.decreases-portions
decreases-portions g l = length l.rest
