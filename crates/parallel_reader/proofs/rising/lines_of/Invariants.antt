use Rattle.std.proofs.Common.{◌≡◌, ℕ, List, length, take}
use Rattle.parallel_reader.specs.Jobs.{AreRead, portion_lines}
use Rattle.parallel_reader.proofs.rising.lines_of.Given as goal

abbrev pub invariant-loop-portion : goal.invariant-loop-portion
invariant-loop-portion l = (ps : List (List ℕ)) → length l.jobs ≡ length ps → AreRead ps l.jobs → l.lines ≡ length (portion_lines (take l.portion-index ps))
