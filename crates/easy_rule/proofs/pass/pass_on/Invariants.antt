use Rattle.std.proofs.Common.{length, vec_len, vec_capacity}
use Rattle.cluster_state.specs.State.{ClusterView}
use Rattle.easy_rule.specs.Pass.{candidates_from, IsPass}
use Rattle.easy_rule.specs.Decision.{HasCapacity, IsBegun}
use Rattle.easy_rule.proofs.pass.pass_on.Given as goal

abbrev pub invariant-candidates : goal.invariant-candidates
invariant-candidates g l = record {
  begun : (first : ClusterView) → IsBegun first l.fn.cluster l.now l.fn.chosen.items → IsBegun first l.cluster l.now l.chosen.items;
  pass : IsPass l.cluster.state l.now l.left (candidates_from l.cluster l.from);
  capacity : HasCapacity l.cluster (vec_len l.chosen) (vec_capacity l.chosen);
}

abbrev pub decreases-candidates : goal.decreases-candidates
decreases-candidates g l = length l.cluster.state.waiting
