use Rattle.std.proofs.Common.{◌≤◌, ◌<◌, ◌^◌, ◌∙◌, List, ap, arith, length, subst, sym, vec_capacity}
use Rattle.std.specs.List.{All}
use Rattle.blocks.specs.Light.{IsFirstLight}
use Rattle.blocks.specs.Rows.{BlocksView, IsRow, flat, capacity_of}
use Rattle.blocks.proofs.Grouped.{groups_same, lent}
use Rattle.blocks.proofs.Capacities.{many}
use Rattle.blocks.proofs.block_row.BlockRow.look.Goals as goal

pub first_light-requires : goal.first_light-requires
first_light-requires g c =
    record {
      short = omega (arith, c.self.invariant.0.few, ap length c.as_mut_slice.ensures.value);
      few = omega (arith, many c.self.invariant.0, c.self.invariant.0.all, ap (λ (r : List (List g.row.T.Denot)). length (flat r)) c.as_mut_slice.ensures.value);
      known = groups_same g.T.Ranked.weight c.self.inside.used.items c.as_mut_slice.result.now c.self.inside.groups.items c.as_mut_slice-2.result.now c.as_mut_slice.ensures.value c.as_mut_slice-2.ensures.value c.self.invariant.2;
    }

pub invariant_of-self : goal.invariant_of-self
invariant_of-self g c =
    let same = c.first_light.ensures.same ∙ c.as_mut_slice.ensures.value in
    let back = lent c.self.inside.used.len c.first_light.new.blocks c.self.inside.used.items c.self.inside.used.ok.0 (ap length same) in
    let made = back ∙ same in
    let groups = lent c.self.inside.groups.len c.first_light.new.groups c.self.inside.groups.items c.self.inside.groups.ok.0 (c.first_light.ensures.len ∙ ap length c.as_mut_slice-2.ensures.value) in (
      subst (λ (r : List (List g.row.T.Denot)). IsRow r c.self.inside.empty.items c.self.inside.over c.self.inside.len c.self.inside.used.cap (vec_capacity c.self.inside.empty)) (sym made) c.self.invariant.0,
      subst (λ (r : List (List g.row.T.Denot)). All (λ x. c.self.inside.least ≤ g.T.Ranked.weight x) (flat r)) (sym made) c.self.invariant.1,
      groups_same g.T.Ranked.weight c.as_mut_slice.result.now _ c.first_light.new.groups _ (made ∙ sym c.as_mut_slice.ensures.value) groups c.first_light.ensures.groups,
      omega (arith, c.self.invariant.3, ap length made),
      subst (λ (r : List (List g.row.T.Denot)). All (λ x. g.T.Ranked.weight x < 2 ^ 64) (flat r)) (sym made) c.self.invariant.4,
    )

pub returns-clause-place : goal.returns-clause-place
returns-clause-place g c =
    let here = c.as_mut_slice.ensures.value ∙ ap (λ (v : BlocksView g.row.T.Denot). v.blocks) c.self.view_is in
    subst (λ (r : List (List g.row.T.Denot)). IsFirstLight g.T.Ranked.weight c.args.wanted.limit (flat r) c.args.wanted.from c.args.wanted.end c.first_light.result) here c.first_light.ensures.place

pub returns-clause-same : goal.returns-clause-same
returns-clause-same g c =
    let same = c.first_light.ensures.same ∙ c.as_mut_slice.ensures.value in
    let made = lent c.self.inside.used.len c.first_light.new.blocks c.self.inside.used.items c.self.inside.used.ok.0 (ap length same) ∙ same in
    let view : List (List g.row.T.Denot) → BlocksView g.row.T.Denot = λ r. record { blocks = r; spare = capacity_of (length r) (length c.self.inside.empty.items) c.self.inside.over } in
    ap view made ∙ c.self.view_is
