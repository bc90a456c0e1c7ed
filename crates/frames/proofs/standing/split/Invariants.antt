use Rattle.std.proofs.Common.{◌≡◌, length}
use Rattle.frames.specs.Frames.{standing_at}
use Rattle.frames.proofs.standing.split.Given as goal

abbrev pub invariant-loop-first : goal.invariant-loop-first
invariant-loop-first g l = standing_at l.place l.rest ≡ standing_at l.place l.fn.stretches

abbrev pub decreases-loop-first : goal.decreases-loop-first
decreases-loop-first g l = length l.rest
