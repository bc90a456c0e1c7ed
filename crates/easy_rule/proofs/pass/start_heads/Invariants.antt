use Rattle.std.proofs.Common.{length, vec_len, vec_capacity}
use Rattle.easy_rule.specs.Decision.{HasCapacity, IsBegun}
use Rattle.easy_rule.proofs.pass.start_heads.Given as goal

abbrev pub invariant-heads : goal.invariant-heads
invariant-heads g l = record {
  begun : IsBegun l.fn.cluster l.cluster l.now l.chosen.items;
  capacity : HasCapacity l.cluster (vec_len l.chosen) (vec_capacity l.chosen);
}

abbrev pub decreases-heads : goal.decreases-heads
decreases-heads g l = length l.cluster.state.waiting
