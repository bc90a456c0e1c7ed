use Rattle.std.proofs.Common.{◌≡◌, length, take, map}
use Rattle.swf_text.specs.Packed.{value_of}
use Rattle.swf_text.proofs.packed.PackedLine.fields.Given as goal

abbrev pub invariant-loop-place : goal.invariant-loop-place
invariant-loop-place l = record {
  sized : length l.values ≡ 18;
  read : take l.place l.values ≡ map value_of (take l.place l.self.0);
}
