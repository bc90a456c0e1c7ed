use Rattle.std.proofs.Common.{◌≡◌, ◌++◌, take}
use Rattle.chunks.proofs.pieces.share.Given as goal

abbrev pub invariant-loop-chunk : goal.invariant-loop-chunk
invariant-loop-chunk g l = l.row.items ≡ l.fn.row.items ++ take l.chunk-index l.more
