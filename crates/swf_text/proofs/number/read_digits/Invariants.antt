use Rattle.std.proofs.Common.{◌≡◌, take, min}
use Rattle.swf_text.specs.Number.{digits_value}
use Rattle.swf_text.proofs.number.read_digits.Given as goal

abbrev pub invariant-loop-byte : goal.invariant-loop-byte
invariant-loop-byte l = l.value ≡ min 1000000000001 (digits_value (take l.byte-index l.digits))
