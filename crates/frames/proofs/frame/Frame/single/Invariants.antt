use Rattle.std.proofs.Common.{◌≡◌, map, take}
use Rattle.frames.specs.Frames.{once}
use Rattle.frames.proofs.frame.Frame.single.Given as goal

abbrev pub invariant-loop-item : goal.invariant-loop-item
invariant-loop-item g l = l.stretches.items ≡ map once (take l.item-index l.items)
