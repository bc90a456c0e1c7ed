use Rattle.std.proofs.Common.{◌∙◌, sym}
use Rattle.blocks.specs.Rows.{flat}
use Rattle.cluster_state.proofs.NumberLemmas.{length-by_number}
use Rattle.cluster_state.proofs.running_set.RunningSet.len.Goals as goal

pub returns : goal.returns
returns g c = rw (← c.self.view_is) (c.len.ensures ∙ sym (length-by_number (flat c.self.inside.runners.blocks)))
