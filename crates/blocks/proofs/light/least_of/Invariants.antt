use Rattle.std.proofs.Common.{ℕ, ◌≤◌, ◌<◌, [], get_or}
use Rattle.std.specs.List.{All}
use Rattle.blocks.proofs.light.least_of.Given as goal

abbrev pub invariant-loop-number : goal.invariant-loop-number
invariant-loop-number g l = (block : ℕ) → l.first ≤ block → block < l.number → All (λ x. l.least ≤ g.T.Ranked.weight x) (get_or l.blocks block [])
