use Rattle.std.proofs.Common.{ℕ, ◌-◌, ◌≤◌, ◌<◌}
use Rattle.waiting_places.specs.Bounds.{corner_at}
use Rattle.waiting_places.proofs.frontier.Frontier.place_of.Given as goal

abbrev pub invariant-loop-low : goal.invariant-loop-low
invariant-loop-low l = record {
  within : l.low ≤ l.high;
  end : l.high ≤ l.self.len;
  front : (k : ℕ) → k < l.low → (corner_at l.self k).size < l.corner.size;
  behind : (k : ℕ) → l.high ≤ k → k < l.self.len → l.corner.size ≤ (corner_at l.self k).size;
}

abbrev pub decreases-loop-low : goal.decreases-loop-low
decreases-loop-low l = l.high - l.low
