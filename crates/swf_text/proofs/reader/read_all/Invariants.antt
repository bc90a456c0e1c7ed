use Rattle.std.proofs.Common.{◌≡◌, ◌+◌, ◌-◌, ◌<◌, ◌≤◌, length, take, drop, Ok}
use Rattle.swf_text.specs.Text.{empty, lines}
use Rattle.swf_text.specs.Reading.{with_lines, text_of}
use Rattle.swf_text.proofs.reader.read_all.Given as goal

abbrev pub invariant-loop-rest : goal.invariant-loop-rest
invariant-loop-rest g l = record {
  read : with_lines l.line l.text (lines l.rest) ≡ text_of l.bytes;
  done : with_lines 1 empty (take (l.line - 1) (lines l.bytes)) ≡ Ok l.text;
  left : drop (l.line - 1) (lines l.bytes) ≡ lines l.rest;
  counted : 0 < l.line;
  within : l.line + length l.rest ≤ length l.bytes + 1;
}

abbrev pub decreases-loop-rest : goal.decreases-loop-rest
decreases-loop-rest g l = length l.rest
