use Rattle.std.proofs.Common.{◌≡◌, ◌+◌, ◌≤◌, ◌++◌, Some, length, map}
use Rattle.waiting_places.specs.Places.{waiting}
use Rattle.waiting_places.proofs.places.closed_up.Given as goal

abbrev pub invariant-loop-item : goal.invariant-loop-item
invariant-loop-item g l = record {
  next : (goal.iterator-loop-item g).can_next l.item-iterator;
  finite : (goal.iterator-loop-item g).is_finite l.item-iterator;
  places : l.closed.places ++ map (λ item. Some item) l.item-iterator ≡ map (λ item. Some item) (waiting l.places);
  spare : l.capacity + length l.item-iterator ≤ l.closed.spare + length (waiting l.places);
}
