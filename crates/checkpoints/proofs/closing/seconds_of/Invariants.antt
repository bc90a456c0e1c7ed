use Rattle.std.proofs.Common.{◌≡◌, map, take}
use Rattle.checkpoints.proofs.closing.seconds_of.Given as goal

abbrev pub invariant-loop-piece : goal.invariant-loop-piece
invariant-loop-piece g l = l.seconds.items ≡ map (λ p. p.first) (take l.piece-index l.pieces)
