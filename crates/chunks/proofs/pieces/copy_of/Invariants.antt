use Rattle.std.proofs.Common.{◌≡◌, ◌+◌, take, vec_len}
use Rattle.chunks.proofs.pieces.copy_of.Given as goal

abbrev pub invariant-loop-item : goal.invariant-loop-item
invariant-loop-item g l = (l.copy.items ≡ take l.item-index l.items) × (vec_len l.copy ≡ l.item-index) × (l.count ≡ l.fn.count + l.item-index)
