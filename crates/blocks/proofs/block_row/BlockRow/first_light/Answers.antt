use Rattle.std.proofs.Common.{List, ◌≤◌, ap, arith, length, subst, ◌∙◌}
use Rattle.std.specs.List.{All}
use Rattle.blocks.specs.Light.{NoneLight}
use Rattle.blocks.specs.Rows.{BlocksView, flat}
use Rattle.blocks.proofs.Grouped.{groups_same}
use Rattle.blocks.proofs.Weighed.{none_light}
use Rattle.blocks.proofs.block_row.BlockRow.first_light.Goals as goal

pub returns-then-limit-self-clause-place : goal.returns-then-limit-self-clause-place
returns-then-limit-self-clause-place g c =
    subst (λ (v : BlocksView g.row.T.Denot). NoneLight g.T.Ranked.weight c.args.limit (flat v.blocks) c.args.from c.args.end) c.self.view_is
    (none_light g.T.Ranked.weight c.args.limit (flat c.self.inside.used.items) c.self.inside.least c.args.from c.args.end c.if-limit-self.true c.self.invariant.1)

pub least_of_all-self-inside-requires-clause-short : goal.least_of_all-self-inside-requires-clause-short
least_of_all-self-inside-requires-clause-short g c = omega (arith, c.self-2.invariant.0.few, ap length c.as_slice.ensures.value)

pub least_of_all-self-inside-requires-clause-groups : goal.least_of_all-self-inside-requires-clause-groups
least_of_all-self-inside-requires-clause-groups g c =
    groups_same g.T.Ranked.weight c.self-2.inside.used.items c.as_slice.result.now c.self-2.inside.groups.items c.as_slice-then-self-end.result.now c.as_slice.ensures.value c.as_slice-then-self-end.ensures.value c.self-2.invariant.2

pub invariant_of-self : goal.invariant_of-self
invariant_of-self g c = (
  c.self-2.invariant.0,
  subst (λ (r : List (List g.row.T.Denot)). All (λ x. c.least_of_all-self-inside.result ≤ g.T.Ranked.weight x) (flat r)) c.as_slice.ensures.value c.least_of_all-self-inside.ensures,
  c.self-2.invariant.2,
  c.self-2.invariant.3,
  c.self-2.invariant.4,
)

pub returns-then-self-end-clause-place : goal.returns-then-self-end-clause-place
returns-then-self-end-clause-place g c = c.look-found.ensures.place

pub returns-then-self-end-clause-same : goal.returns-then-self-end-clause-same
returns-then-self-end-clause-same g c = c.self-2.view_is ∙ c.look-found.ensures.same

pub returns-else-is_none-clause-place : goal.returns-else-is_none-clause-place
returns-else-is_none-clause-place g c = c.look-found.ensures.place

pub returns-else-is_none-clause-same : goal.returns-else-is_none-clause-same
returns-else-is_none-clause-same g c = c.look-found.ensures.same
