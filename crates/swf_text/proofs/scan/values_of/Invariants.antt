use Rattle.std.proofs.Common.{◌≡◌, ◌+◌, length, take}
use Rattle.swf_text.specs.Line.{fields, values_from}
use Rattle.swf_text.proofs.Words.{onto}
use Rattle.swf_text.proofs.scan.values_of.Given as goal

abbrev pub invariant-loop-place : goal.invariant-loop-place
invariant-loop-place l = record {
  sized : length l.values ≡ 18;
  left : l.place + length (fields l.rest) ≡ 18;
  read : onto (take l.place l.values) (values_from (l.place + 1) (fields l.rest)) ≡ values_from 1 (fields l.line);
}
