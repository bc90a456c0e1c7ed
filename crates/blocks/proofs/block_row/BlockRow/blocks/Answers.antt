use Rattle.std.proofs.Common.{◌≤◌, ◌^◌, ap, arith, length, subst, ◌∙◌}
use Rattle.blocks.specs.Rows.{AreFilled, BlocksView}
use Rattle.blocks.proofs.block_row.BlockRow.blocks.Goals as goal

pub returns-clause-blocks : goal.returns-clause-blocks
returns-clause-blocks g c = c.as_slice.ensures.value ∙ ap (λ (v : BlocksView g.row.T.Denot). v.blocks) c.self.view_is

pub returns-clause-filled : goal.returns-clause-filled
returns-clause-filled g c = subst (λ (v : BlocksView g.row.T.Denot). AreFilled v.blocks) c.self.view_is c.self.invariant.0.filled

pub returns-clause-few : goal.returns-clause-few
returns-clause-few g c = subst (λ (v : BlocksView g.row.T.Denot). length v.blocks ≤ 2 ^ 40) c.self.view_is (omega (arith, c.self.invariant.0.few))
