use Rattle.std.proofs.Common.{◌≡◌, ◌+◌, ◌≤◌, length, drop}
use Rattle.waiting_places.specs.Places.{waiting}
use Rattle.waiting_places.proofs.places.place_before.Given as goal

abbrev pub invariant-places : goal.invariant-places
invariant-places g l = record {
  within : l.place ≤ length l.places;
  behind : l.left + length (waiting (drop l.place l.places)) ≡ l.count;
}

abbrev pub decreases-places : goal.decreases-places
decreases-places g l = l.left + l.place
