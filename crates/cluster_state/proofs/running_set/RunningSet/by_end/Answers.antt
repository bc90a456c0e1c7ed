use Rattle.std.proofs.Common.{◌∙◌, ap}
use Rattle.blocks.specs.Rows.{flat}
use Rattle.cluster_state.specs.Ends.{by_number}
use Rattle.cluster_state.proofs.NumberLemmas.{runners-is}
use Rattle.cluster_state.proofs.running_set.RunningSet.by_end.Goals as goal

pub returns-clause-runners : goal.returns-clause-runners
returns-clause-runners g c = rw (← c.self.view_is) (c.of.ensures ∙ c.iter.ensures ∙ runners-is (flat c.self.inside.runners.blocks) c.self.invariant.rises c.self.invariant.once)

pub returns-clause-by_number : goal.returns-clause-by_number
returns-clause-by_number g c = rw (← c.self.view_is) (ap by_number (c.of.ensures ∙ c.iter.ensures))
