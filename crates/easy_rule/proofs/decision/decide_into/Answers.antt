use Rattle.std.proofs.Common.{subst, sym}
use Rattle.cluster_state.specs.State.{ClusterView}
use Rattle.easy_rule.specs.Decision.{IsDecision}
use Rattle.easy_rule.proofs.Begun.{begun-done, begun-none}
use Rattle.easy_rule.proofs.decision.decide_into.Goals as goal

pub returns-in-Nobody-clause-ok : goal.returns-in-Nobody-clause-ok
returns-in-Nobody-clause-ok g c =
    let v = c.args.cluster.now in
    let items = c.clear.new.self.items in
    subst (λ (d : ClusterView). IsDecision v d c.args.now items) (sym c.in-Nobody.ensures.same)
    (begun-done v v c.args.now items c.in-Nobody.ensures.first.0 (begun-none v c.args.now items c.clear.ensures.items))
