use Rattle.std.proofs.Common.{◌≡◌, ◌*◌, ◌^◌, List, Some, ap, arith, length, refl, subst, sym, ◌∙◌}
use Rattle.blocks.specs.Groups.{AreGrouped, AreGroups}
use Rattle.blocks.specs.Light.{IsFirstLight, NoneWithin}
use Rattle.blocks.specs.Rows.{flat, start}
use Rattle.blocks.specs.declared.groups.Group.{Group}
use Rattle.blocks.proofs.Grouped.{groups_there}
use Rattle.blocks.proofs.Passed.{passed_all, passed_fits, passed_next, passed_none}
use Rattle.blocks.proofs.Weighed.{ended_none}
use Rattle.blocks.proofs.light.first_light.Goals as goal

pub loop-number-init : goal.loop-number-init
loop-number-init g c = record { same = refl; count = refl; known = c.requires.known; at = refl; none = λ place low high lt. absurd (omega (arith, lt)) }

pub returns-then-wanted-start-clause-place : goal.returns-then-wanted-start-clause-place
returns-then-wanted-start-clause-place g c = ended_none g.T.Ranked.weight c.args.wanted.limit (flat c.args.blocks.now) c.args.wanted.from c.args.wanted.end c.loop-number.start c.if-wanted-start.true c.loop-number.invariant.none

pub returns-then-wanted-start-clause-same : goal.returns-then-wanted-start-clause-same
returns-then-wanted-start-clause-same g c = c.loop-number.invariant.same

pub returns-then-wanted-start-clause-groups : goal.returns-then-wanted-start-clause-groups
returns-then-wanted-start-clause-groups g c = c.loop-number.invariant.known

pub returns-then-wanted-start-clause-len : goal.returns-then-wanted-start-clause-len
returns-then-wanted-start-clause-len g c = c.loop-number.invariant.count

pub light_in_group-requires-clause-number : goal.light_in_group-requires-clause-number
light_in_group-requires-clause-number g c = omega (arith, c.loop-number-test.true, c.loop-number.invariant.count)

pub light_in_group-requires-clause-begin : goal.light_in_group-requires-clause-begin
light_in_group-requires-clause-begin g c = c.loop-number.invariant.at ∙ ap (λ (r : List (List g.row.T.Denot)). start (64 * c.loop-number.number) r) (sym c.loop-number.invariant.same)

pub light_in_group-requires-clause-none : goal.light_in_group-requires-clause-none
light_in_group-requires-clause-none g c =
    subst (λ (r : List (List g.row.T.Denot)). NoneWithin g.T.Ranked.weight c.args.wanted.limit (flat r) c.args.wanted.from c.args.wanted.end c.loop-number.start) (sym c.loop-number.invariant.same) c.loop-number.invariant.none

pub returns-in-Some-clause-place : goal.returns-in-Some-clause-place
returns-in-Some-clause-place g c =
    subst (λ (r : List (List g.row.T.Denot)). IsFirstLight g.T.Ranked.weight c.args.wanted.limit (flat r) c.args.wanted.from c.args.wanted.end (Some c.in-Some.place)) c.loop-number.invariant.same c.in-Some.ensures.place

pub returns-in-Some-clause-same : goal.returns-in-Some-clause-same
returns-in-Some-clause-same g c = c.in-Some.ensures.same ∙ c.loop-number.invariant.same

pub returns-in-Some-clause-groups : goal.returns-in-Some-clause-groups
returns-in-Some-clause-groups g c = subst (λ (r : List (List g.row.T.Denot)). AreGroups g.T.Ranked.weight r c.light_in_group.new.groups) c.loop-number.invariant.same c.in-Some.ensures.groups

pub returns-in-Some-clause-len : goal.returns-in-Some-clause-len
returns-in-Some-clause-len g c = c.in-Some.ensures.len ∙ c.loop-number.invariant.count

pub overflow_add-start : goal.overflow_add-start
overflow_add-start g c =
    let d : Group = record { items = 0; weight = 0; least = 0 } in
    let fits = passed_fits g.T.Ranked.weight c.args.wanted.limit c.args.wanted.from c.args.wanted.end c.args.blocks.now c.loop-number.blocks c.loop-number.invariant.same c.loop-number.groups c.loop-number.number c.loop-number.start (2 ^ 64) d c.loop-number.invariant.known (omega (arith, c.loop-number-test.true, c.loop-number.invariant.count)) c.loop-number.invariant.at c.requires.few in
    omega (arith, fits)

pub light_in_group-requires-clause-grouped : goal.light_in_group-requires-clause-grouped
light_in_group-requires-clause-grouped g c =
    subst (λ blocks. AreGrouped g.T.Ranked.weight blocks c.loop-number.groups) (sym c.loop-number.invariant.same) (record { short = c.requires.short; few = c.requires.few; known = c.loop-number.invariant.known })

pub loop-number-preserved : goal.loop-number-preserved
loop-number-preserved g c =
    let d : Group = record { items = 0; weight = 0; least = 0 } in
    record {
      same = c.light_in_group.ensures.same ∙ c.loop-number.invariant.same;
      count = c.light_in_group.ensures.len ∙ c.loop-number.invariant.count;
      known = subst (λ blocks. AreGroups g.T.Ranked.weight blocks c.light_in_group.new.groups) c.loop-number.invariant.same c.light_in_group.ensures.groups;
      at = passed_next g.T.Ranked.weight c.args.wanted.limit c.args.wanted.from c.args.wanted.end c.args.blocks.now c.loop-number.blocks c.loop-number.invariant.same c.loop-number.groups c.loop-number.number c.loop-number.start d c.loop-number.invariant.known (omega (arith, c.loop-number-test.true, c.loop-number.invariant.count)) c.loop-number.invariant.at;
      none = passed_none g.T.Ranked.weight c.args.wanted.limit c.args.wanted.from c.args.wanted.end c.args.blocks.now c.loop-number.blocks c.loop-number.invariant.same c.loop-number.groups c.loop-number.number c.loop-number.start d c.loop-number.invariant.known (omega (arith, c.loop-number-test.true, c.loop-number.invariant.count)) c.loop-number.invariant.at
          c.in_default.ensures.place;
    }

pub overflow_mul-groups : goal.overflow_mul-groups
overflow_mul-groups g c =
    let all = groups_there g.T.Ranked.weight c.args.blocks.now c.loop-number.groups c.loop-number.invariant.known in
    omega (arith, all, c.requires.short)

pub light_within-requires-clause-order : goal.light_within-requires-clause-order
light_within-requires-clause-order g c =
    let all = groups_there g.T.Ranked.weight c.args.blocks.now c.loop-number.groups c.loop-number.invariant.known in
    omega (arith, all, ap length c.loop-number.invariant.same)

pub returns-clause-place : goal.returns-clause-place
returns-clause-place g c = passed_all g.T.Ranked.weight c.args.wanted.limit c.args.wanted.from c.args.wanted.end c.args.blocks.now c.loop-number.blocks c.loop-number.invariant.same (length c.loop-number.blocks) c.light_within.result refl c.light_within.ensures.place

pub light_within-requires-clause-few : goal.light_within-requires-clause-few
light_within-requires-clause-few g c = omega (arith, c.requires.few, ap (λ (r : List (List g.row.T.Denot)). length (flat r)) c.loop-number.invariant.same)

pub light_within-requires-clause-begin : goal.light_within-requires-clause-begin
light_within-requires-clause-begin g c =
    let last : 64 * c.loop-number.number ≡ 64 * length c.loop-number.groups = omega (arith, c.loop-number-test.false, c.loop-number.auto.number-end, c.loop-number.invariant.count) in
    c.loop-number.invariant.at ∙ ap (λ n. start n c.args.blocks.now) last ∙ ap (λ (r : List (List g.row.T.Denot)). start (64 * length c.loop-number.groups) r) (sym c.loop-number.invariant.same)

pub light_within-requires-clause-none : goal.light_within-requires-clause-none
light_within-requires-clause-none g c =
    subst (λ (r : List (List g.row.T.Denot)). NoneWithin g.T.Ranked.weight c.args.wanted.limit (flat r) c.args.wanted.from c.args.wanted.end c.loop-number.start) (sym c.loop-number.invariant.same) c.loop-number.invariant.none

pub returns-clause-same : goal.returns-clause-same
returns-clause-same g c = c.light_within.ensures.same ∙ c.loop-number.invariant.same

pub returns-clause-groups : goal.returns-clause-groups
returns-clause-groups g c = c.loop-number.invariant.known

pub returns-clause-len : goal.returns-clause-len
returns-clause-len g c = c.loop-number.invariant.count
