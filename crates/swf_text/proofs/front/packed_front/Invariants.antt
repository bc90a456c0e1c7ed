use Rattle.std.proofs.Common.{◌≡◌, take, length, map}
use Rattle.swf_text.specs.Packed.{value_of}
use Rattle.swf_text.proofs.Fronts.{IsWalked}
use Rattle.swf_text.proofs.front.packed_front.Given as goal

abbrev pub invariant-loop-place : goal.invariant-loop-place
invariant-loop-place l = record {
  sized : length l.job.0 ≡ 18;
  walked : IsWalked l.bytes (map value_of (take l.place l.job.0)) l.place l.rest;
}
