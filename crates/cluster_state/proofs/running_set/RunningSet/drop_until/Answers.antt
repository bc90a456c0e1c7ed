use Rattle.std.proofs.Common.{◌∙◌, sym}
use Rattle.cluster_state.proofs.EndLemmas.{filter-later}
use Rattle.cluster_state.proofs.running_set.RunningSet.drop_until.Goals as goal

pub returns-clause-running : goal.returns-clause-running
returns-clause-running g c =
    c.in_default.ensures.kept ∙ sym (filter-later c.args.t c.ends.self.running c.in_default.ensures.later) ∙ c.ends.invariant.left
