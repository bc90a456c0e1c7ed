use Rattle.std.proofs.Common.{arith, ap, drop, rules, subst, ◌∙◌}
use Rattle.blocks.specs.Rows.{EndsAt}
use Rattle.blocks.proofs.Weights.{back_light, block_high, block_low, lent_back, put_behind_none}
use Rattle.blocks.proofs.block.Block.cut.Goals as goal

pub weight_of-weight-requires : goal.weight_of-weight-requires
weight_of-weight-requires g c =
    let light = back_light g.T.Ranked.weight c.self.inside.weight c.self.inside.least _ 64 c.self.inside.items.items _ c.self.invariant.0 (lent_back 64 c.self.inside.items.items c.as_slice.result.now c.as_slice.ensures.value) in
    omega (arith, light.0)

pub overflow_sub-self : goal.overflow_sub-self
overflow_sub-self g c =
    let light = back_light g.T.Ranked.weight c.self.inside.weight c.self.inside.least _ 64 c.self.inside.items.items _ c.self.invariant.0 (lent_back 64 c.self.inside.items.items c.as_slice.result.now c.as_slice.ensures.value) in
    omega (arith, light.1, c.weight_of-weight.ensures)

pub invariant_of-self : goal.invariant_of-self
invariant_of-self g c = (
  block_low g.T.Ranked.weight c.self.inside.weight c.self.inside.least _ c.weight_of-weight.result 64 c.self.inside.items.items c.truncate.new.self.items _ _ c.self.invariant.0 (lent_back 64 c.self.inside.items.items c.as_slice.result.now c.as_slice.ensures.value) c.weight_of-weight.ensures c.truncate.ensures.items c.truncate.ensures.capacity,
  search rules,
)

pub invariant_of-high : goal.invariant_of-high
invariant_of-high g c = (
  block_high g.T.Ranked.weight c.self.inside.weight c.self.inside.least _ c.weight_of-weight.result 64 c.self.inside.items.items c.extend_from_slice.new.self.items _ _ c.self.invariant.0 (lent_back 64 c.self.inside.items.items c.as_slice.result.now c.as_slice.ensures.value) c.weight_of-weight.ensures
      (put_behind_none c.extend_from_slice.new.self.items _ _ _ c.in-Ok.ensures.items c.high.view_is c.requires.none) (omega (arith, c.high.invariant.0.wide, c.in-Ok.ensures.capacity)),
  subst (EndsAt g.T.Ranked.major c.last_of-high-inside.result) c.as_slice-2.ensures.value c.last_of-high-inside.ensures,
)

pub returns-clause-high : goal.returns-clause-high
returns-clause-high g c =
    put_behind_none c.extend_from_slice.new.self.items _ _ _ c.in-Ok.ensures.items c.high.view_is c.requires.none ∙ lent_back 64 c.self.inside.items.items c.as_slice.result.now c.as_slice.ensures.value ∙ ap (drop 64) c.self.view_is
