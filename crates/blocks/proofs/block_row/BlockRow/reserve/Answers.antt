use Rattle.std.proofs.Common.{◌≤◌, ◌<◌, ◌^◌, ap, arith, length, ◌∙◌}
use Rattle.blocks.specs.Rows.{BlocksView, flat}
use Rattle.blocks.proofs.Bounds.{all_by}
use Rattle.blocks.proofs.Grouped.{groups_same}
use Rattle.blocks.proofs.Capacities.{grown_row, kept_row}
use Rattle.blocks.proofs.block_row.BlockRow.reserve.Goals as goal

pub another-requires : goal.another-requires
another-requires g c = c.self.invariant.0.few

pub invariant_of-self : goal.invariant_of-self
invariant_of-self g c =
    let e = c.in_err-block.ensures in (
      kept_row c.self.invariant.0 c.another.new.used.items c.another.new.empty.items _ _ e.used.items e.empty.items e.used.capacity e.empty.capacity,
      all_by (λ x. c.self.inside.least ≤ g.T.Ranked.weight x) (flat c.self.inside.used.items) (flat c.another.new.used.items) c.self.invariant.1 (ap flat e.used.items),
      groups_same g.T.Ranked.weight c.self.inside.used.items c.another.new.used.items c.self.inside.groups.items c.another.new.groups.items e.used.items e.groups.items c.self.invariant.2,
      omega (arith, c.self.invariant.3, e.groups.capacity, ap length e.used.items, ap length e.empty.items),
      all_by (λ x. g.T.Ranked.weight x < 2 ^ 64) (flat c.self.inside.used.items) (flat c.another.new.used.items) c.self.invariant.4 (ap flat e.used.items),
    )

pub returns-in_err-block-clause-blocks : goal.returns-in_err-block-clause-blocks
returns-in_err-block-clause-blocks g c = c.in_err-block.ensures.used.items ∙ ap (λ (v : BlocksView g.row.T.Denot). v.blocks) c.self.view_is ∙ c.capacity.invariant.same

pub returns-in_err-block-clause-kept : goal.returns-in_err-block-clause-kept
returns-in_err-block-clause-kept g c =
    omega (arith, c.capacity.invariant.more, ap length c.in_err-block.ensures.used.items, ap length c.in_err-block.ensures.empty.items, ap (λ (v : BlocksView g.row.T.Denot). v.spare) c.self.view_is)

pub returns-in_err-block-clause-capacity : goal.returns-in_err-block-clause-capacity
returns-in_err-block-clause-capacity g c = λ le. absurd (omega (arith, le, c.capacity.invariant.more, c.capacity-test.true, c.spare.ensures))

pub keep_in-requires-clause-none : goal.keep_in-requires-clause-none
keep_in-requires-clause-none g c = c.in_ok-block.ensures.block

pub keep_in-requires-clause-capacity : goal.keep_in-requires-clause-capacity
keep_in-requires-clause-capacity g c = omega (arith, c.in_ok-block.ensures.capacity.returnable, ap length c.in_ok-block.ensures.empty.items)

pub invariant_of-self-in-capacity : goal.invariant_of-self-in-capacity
invariant_of-self-in-capacity g c =
    let e = c.in_ok-block.ensures in (
      grown_row c.self.invariant.0 c.another.new.used.items c.keep_in.new.empty.items _ _ e.used.items c.keep_in.ensures.cleared (omega (arith, c.keep_in.ensures.count, ap length e.empty.items)) e.few (omega (arith, e.capacity.usable)) (omega (arith, e.capacity.returnable, c.keep_in.ensures.kept)),
      all_by (λ x. c.self.inside.least ≤ g.T.Ranked.weight x) (flat c.self.inside.used.items) (flat c.another.new.used.items) c.self.invariant.1 (ap flat e.used.items),
      groups_same g.T.Ranked.weight c.self.inside.used.items c.another.new.used.items c.self.inside.groups.items c.another.new.groups.items e.used.items e.groups.items c.self.invariant.2,
      omega (arith, e.capacity.grouped, ap length e.used.items, ap length e.empty.items, c.keep_in.ensures.count),
      all_by (λ x. g.T.Ranked.weight x < 2 ^ 64) (flat c.self.inside.used.items) (flat c.another.new.used.items) c.self.invariant.4 (ap flat e.used.items),
    )

pub capacity-preserved : goal.capacity-preserved
capacity-preserved g c =
    let e = c.in_ok-block.ensures in
    record {
      same = e.used.items ∙ ap (λ (v : BlocksView g.row.T.Denot). v.blocks) c.self.view_is ∙ c.capacity.invariant.same;
      more = omega (arith, c.capacity.invariant.more, c.self.invariant.0.owed, ap length e.used.items, ap length e.empty.items, c.keep_in.ensures.count, ap (λ (v : BlocksView g.row.T.Denot). v.spare) c.self.view_is);
    }

pub capacity-smaller : goal.capacity-smaller
capacity-smaller g c =
    let e = c.in_ok-block.ensures in
    omega (arith, c.capacity-test.true, c.spare.ensures, c.self.invariant.0.owed, ap length e.used.items, ap length e.empty.items, c.keep_in.ensures.count, ap (λ (v : BlocksView g.row.T.Denot). v.spare) c.self.view_is)
