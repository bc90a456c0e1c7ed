use Rattle.std.proofs.Common.{◌≡◌, ◌↔◌}
use Rattle.cluster_state.proofs.snapshot.are_same.Given as goal

abbrev pub invariant-loop-item : goal.invariant-loop-item
invariant-loop-item g l = (l.item-iterator ≡ l.behind) ↔ (l.fn.one ≡ l.fn.other)
