use Rattle.std.proofs.Common.{◌≡◌, take, Ok}
use Rattle.swf_text.specs.Reading.{with_lines}
use Rattle.parallel_reader.specs.Adding.{texts}
use Rattle.parallel_reader.proofs.batch.add_lines.Given as goal

abbrev pub invariant-loop-place : goal.invariant-loop-place
invariant-loop-place g l = with_lines l.first l.fn.text (take l.place (texts l.lines)) ≡ Ok l.text
