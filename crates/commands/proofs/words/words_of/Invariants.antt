use Rattle.std.proofs.Common.{◌≡◌, ◌++◌, length, map}
use Rattle.swf_text.specs.Line.{fields}
use Rattle.commands.proofs.words.words_of.Given as goal

abbrev pub invariant-loop-rest : goal.invariant-loop-rest
invariant-loop-rest l = map (λ w. w.now) l.words.items ++ fields l.rest ≡ fields l.bytes

abbrev pub decreases-loop-rest : goal.decreases-loop-rest
decreases-loop-rest l = length l.rest
