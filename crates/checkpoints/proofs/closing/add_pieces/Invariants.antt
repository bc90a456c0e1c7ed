use Rattle.std.proofs.Common.{◌≡◌, ◌++◌, length, map}
use Rattle.std.specs.Arc.{arc_value}
use Rattle.std.specs.Vec.Iter.{into_iter_items, into_iter_len}
use Rattle.checkpoints.specs.Closing.{segments_at}
use Rattle.checkpoints.proofs.closing.add_pieces.Given as goal

abbrev pub invariant-loop-piece : goal.invariant-loop-piece
invariant-loop-piece g l = record {
  left : l.yielded ++ into_iter_items l.piece-iterator ≡ into_iter_items l.initial.piece-iterator;
  counted : into_iter_len l.piece-iterator ≡ length (into_iter_items l.piece-iterator);
  at : l.place ≡ length l.yielded;
  made : map arc_value l.done.items ≡ map arc_value l.fn.done.items ++ segments_at 0 l.shared l.yielded;
}
