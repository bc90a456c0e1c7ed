use Rattle.std.proofs.Common.{◌≡◌, ℕ, ◌<◌, ◌≤◌, get_or, true, length}
use Rattle.swf_text.specs.Line.{is_return}
use Rattle.swf_text.proofs.scan.without_returns.Given as goal

abbrev pub invariant-loop-end : goal.invariant-loop-end
invariant-loop-end l = record {
  within : l.end ≤ length l.bytes;
  returns : (k : ℕ) → l.end ≤ k → k < length l.bytes → is_return (get_or l.bytes k 0) ≡ true;
}

abbrev pub decreases-loop-end : goal.decreases-loop-end
decreases-loop-end l = l.end
