use Rattle.std.proofs.Common.{ℕ, ◌+◌, ◌-◌, ◌≤◌, ◌<◌}
use Rattle.waiting_places.specs.Bounds.{IsBelow, corner_at}
use Rattle.waiting_places.proofs.frontier.Frontier.merge.Given as goal

abbrev pub invariant-loop-at : goal.invariant-loop-at
invariant-loop-at l = record {
  first : l.i ≤ l.a.len;
  second : l.at ≤ l.i + l.b.len;
  all : l.i ≤ l.at;
  met : (k : ℕ) → k < l.i → IsBelow l.self (corner_at l.a k).size (corner_at l.a k).estimate;
  met_too : (k : ℕ) → l.i + k < l.at → IsBelow l.self (corner_at l.b k).size (corner_at l.b k).estimate;
  last : (k : ℕ) → k < l.self.len → l.i < l.a.len → (corner_at l.self k).size ≤ (corner_at l.a l.i).size;
  last_too : (k : ℕ) → k < l.self.len → l.at < l.i + l.b.len → (corner_at l.self k).size ≤ (corner_at l.b (l.at - l.i)).size;
}
