use Rattle.rejoin.specs.Joining.{IsUpTo}
use Rattle.rejoin.proofs.joining.go_over.Given as goal

abbrev pub invariant-loop-at : goal.invariant-loop-at
invariant-loop-at g l = IsUpTo l.change l.spacing l.at l.patch
