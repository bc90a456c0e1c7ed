use Rattle.std.proofs.Common.{◌<◌, ◌^◌, subst}
use Rattle.std.specs.List.{sum_by}
use Rattle.blocks.specs.Rows.{BlocksView, flat}
use Rattle.blocks.proofs.Capacities.{weighs}
use Rattle.blocks.proofs.block_row.BlockRow.groups.Goals as goal

pub returns-clause-light : goal.returns-clause-light
returns-clause-light g c = subst (λ (v : BlocksView g.row.T.Denot). sum_by g.T.Ranked.weight (flat v.blocks) < 2 ^ 127) c.self.view_is (weighs c.self.invariant.0 g.T.Ranked.weight c.self.invariant.4)
