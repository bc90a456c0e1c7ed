use Rattle.std.proofs.Common.{◌∙◌, ap, sym}
use Rattle.cluster_state.specs.State.{ClusterView}
use Rattle.easy_rule.proofs.PassLemmas.{state_after-done, starts_at-done}
use Rattle.easy_rule.proofs.decision.decide.Goals as goal

pub returns-in-Nobody-clause-state : goal.returns-in-Nobody-clause-state
returns-in-Nobody-clause-state g c = ap (λ (v : ClusterView). v.state) c.in-Nobody.ensures.same ∙ sym (state_after-done c.args.cluster.now.state c.args.now c.in-Nobody.ensures.first.0)

pub returns-in-Nobody-clause-starts : goal.returns-in-Nobody-clause-starts
returns-in-Nobody-clause-starts g c = c.new.ensures.items ∙ sym (starts_at-done c.args.cluster.now.state c.args.now c.in-Nobody.ensures.first.0)
