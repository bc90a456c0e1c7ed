use Rattle.std.proofs.Common.{◌≡◌, length, take, map}
use Rattle.swf_text.specs.Packed.{value_of}
use Rattle.swf_text.proofs.packed.PackedLine.of.Given as goal

abbrev pub invariant-loop-place : goal.invariant-loop-place
invariant-loop-place l = record {
  sized : length l.codes ≡ 18;
  packed : map value_of (take l.place l.codes) ≡ take l.place l.line.0;
}
