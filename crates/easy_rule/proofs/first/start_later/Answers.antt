use Rattle.std.proofs.Common.{subst, sym}
use Rattle.cluster_state.specs.State.{ClusterView}
use Rattle.easy_rule.specs.Decision.{IsDecision}
use Rattle.easy_rule.proofs.Begun.{begun-done}
use Rattle.easy_rule.proofs.first.start_later.Goals as goal

pub returns-in-Nobody-clause-decided : goal.returns-in-Nobody-clause-decided
returns-in-Nobody-clause-decided g c = λ first b.
    let items = c.args.chosen.now.items in
    subst (λ (v : ClusterView). IsDecision first v c.args.now items) (sym c.in-Nobody.ensures.same)
    (begun-done first c.args.cluster.now c.args.now items c.in-Nobody.ensures.first.0 b)
