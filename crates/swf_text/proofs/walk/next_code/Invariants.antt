use Rattle.std.proofs.Common.{◌≡◌, length}
use Rattle.swf_text.specs.Line.{from_first}
use Rattle.swf_text.proofs.walk.next_code.Given as goal

abbrev pub invariant-loop-word : goal.invariant-loop-word
invariant-loop-word l = from_first l.rest ≡ from_first l.bytes

abbrev pub decreases-loop-word : goal.decreases-loop-word
decreases-loop-word l = length l.rest
