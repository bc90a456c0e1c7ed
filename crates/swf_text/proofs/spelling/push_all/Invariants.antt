use Rattle.std.proofs.Common.{◌≡◌, ◌++◌, take}
use Rattle.swf_text.proofs.spelling.push_all.Given as goal

abbrev pub invariant-loop-byte : goal.invariant-loop-byte
invariant-loop-byte g l = l.text.items ≡ l.fn.text.items ++ take l.byte-index l.bytes
