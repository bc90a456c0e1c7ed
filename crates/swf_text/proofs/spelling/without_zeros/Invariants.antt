use Rattle.std.proofs.Common.{◌≡◌, ℕ, ◌<◌, ◌≤◌, get_or, true, length}
use Rattle.swf_text.specs.Number.{is_zero}
use Rattle.swf_text.proofs.spelling.without_zeros.Given as goal

abbrev pub invariant-loop-end : goal.invariant-loop-end
invariant-loop-end l = record {
  within : l.end ≤ length l.digits;
  zeros : (k : ℕ) → l.end ≤ k → k < length l.digits → is_zero (get_or l.digits k 0) ≡ true;
}

abbrev pub decreases-loop-end : goal.decreases-loop-end
decreases-loop-end l = l.end
