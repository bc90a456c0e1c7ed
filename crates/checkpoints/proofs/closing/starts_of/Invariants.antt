use Rattle.std.proofs.Common.{◌≡◌, ◌++◌, take}
use Rattle.std.specs.List.{flat_map}
use Rattle.std.specs.Option.{option_copied}
use Rattle.checkpoints.specs.Closing.{base_of}
use Rattle.checkpoints.proofs.closing.starts_of.Given as goal

abbrev pub invariant-loop-piece : goal.invariant-loop-piece
invariant-loop-piece g l = l.starts.items ≡ (base_of (option_copied l.base)).starts ++ flat_map (λ p. p.starts) (take l.piece-index l.pieces)
