use Rattle.std.proofs.Common.{◌≡◌, take, length, map}
use Rattle.swf_text.specs.Packed.{value_of}
use Rattle.swf_text.proofs.Walks.{IsMet}
use Rattle.swf_text.proofs.walk.codes_at.Given as goal

abbrev pub invariant-loop-place : goal.invariant-loop-place
invariant-loop-place l = record {
  sized : length l.codes ≡ 18;
  met : IsMet l.line (map value_of (take l.place l.codes)) l.place l.rest;
}
