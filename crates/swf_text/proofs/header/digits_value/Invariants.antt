use Rattle.std.proofs.Common.{◌≡◌, ◌<◌, ◌^◌, take}
use Rattle.swf_text.specs.Number.{digits_value}
use Rattle.swf_text.proofs.header.digits_value.Given as goal

abbrev pub invariant-loop-byte : goal.invariant-loop-byte
invariant-loop-byte l = record {
  value : l.value ≡ digits_value (take l.byte-index l.digits);
  small : l.value < 10 ^ l.byte-index;
}
