use Rattle.std.proofs.Common.{◌≡◌, ◌+◌, take, drop, Ok}
use Rattle.swf_text.specs.Text.{empty, lines}
use Rattle.swf_text.specs.Reading.{with_lines, text_of}
use Rattle.swf_text.proofs.assembly.add_all.Given as goal

abbrev pub invariant-loop-place : goal.invariant-loop-place
invariant-loop-place g l = record {
  read : with_lines (l.place + 1) l.text (drop l.place (lines l.bytes)) ≡ text_of l.bytes;
  done : with_lines 1 empty (take l.place (lines l.bytes)) ≡ Ok l.text;
}
