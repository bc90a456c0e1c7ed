use Rattle.std.proofs.Common.{◌*◌, ◌^◌, ap, arith, get_or, length, refl, ⊎_elim}
use Rattle.std.proofs.lemmas.List.{length-set}
use Rattle.blocks.specs.declared.groups.Group.{Group}
use Rattle.blocks.proofs.Grouped.{groups_learn, groups_there}
use Rattle.blocks.proofs.Passed.{passed_fits}
use Rattle.blocks.proofs.Weighed.{behind_from, heavy_group}
use Rattle.blocks.proofs.light.light_in_group.Goals as goal

pub overflow_add-next : goal.overflow_add-next
overflow_add-next g c =
    let d : Group = record { items = 0; weight = 0; least = 0 } in
    let fits = passed_fits g.T.Ranked.weight c.args.wanted.limit c.args.wanted.from c.args.wanted.end c.args.blocks.now c.args.blocks.now refl c.args.groups.now c.args.number c.args.begin (2 ^ 64) d c.requires.grouped.known c.requires.number c.requires.begin c.requires.grouped.few in
    omega (arith, fits)

pub returns-then-next-wanted-clause-place : goal.returns-then-next-wanted-clause-place
returns-then-next-wanted-clause-place g c =
    let d : Group = record { items = 0; weight = 0; least = 0 } in
    let known = c.requires.grouped.known c.args.number d c.requires.number in
    let group : Group = get_or c.args.groups.now c.args.number d in
    ⊎_elim
    (λ h. behind_from g.T.Ranked.weight c.args.wanted.limit c.args.wanted.from c.args.wanted.end c.args.blocks.now (64 * c.args.number) group known c.args.begin c.requires.begin (omega (arith, h)))
    (λ h. heavy_group g.T.Ranked.weight c.args.wanted.limit c.args.wanted.from c.args.wanted.end c.args.blocks.now (64 * c.args.number) group known c.args.begin c.requires.begin (omega (arith, h)) c.requires.none)
    c.then-next-wanted.either

pub overflow_mul-first : goal.overflow_mul-first
overflow_mul-first g c =
    let all = groups_there g.T.Ranked.weight c.args.blocks.now c.args.groups.now c.requires.grouped.known in
    omega (arith, all, c.requires.number, c.requires.grouped.short)

pub returns-then-next-wanted-2-clause-groups : goal.returns-then-next-wanted-2-clause-groups
returns-then-next-wanted-2-clause-groups g c =
    groups_learn g.T.Ranked.weight c.args.blocks.now c.light_within-found.new.blocks c.args.groups.now c.args.number c.least_of-least.result (record { items = 0; weight = 0; least = 0 }) c.light_within-found.ensures.same c.requires.number c.requires.grouped.known c.least_of-least.ensures

pub returns-then-next-wanted-clause-same : goal.returns-then-next-wanted-clause-same
returns-then-next-wanted-clause-same g c = refl

pub returns-then-next-wanted-clause-groups : goal.returns-then-next-wanted-clause-groups
returns-then-next-wanted-clause-groups g c = c.requires.grouped.known

pub overflow_add-first : goal.overflow_add-first
overflow_add-first g c =
    let all = groups_there g.T.Ranked.weight c.args.blocks.now c.args.groups.now c.requires.grouped.known in
    omega (arith, all, c.requires.number, c.requires.grouped.short)

pub light_within-found-requires-clause-within : goal.light_within-found-requires-clause-within
light_within-found-requires-clause-within g c =
    let all = groups_there g.T.Ranked.weight c.args.blocks.now c.args.groups.now c.requires.grouped.known in
    omega (arith, all, c.requires.number)

pub light_within-found-requires-clause-few : goal.light_within-found-requires-clause-few
light_within-found-requires-clause-few g c = c.requires.grouped.few

pub light_within-found-requires-clause-begin : goal.light_within-found-requires-clause-begin
light_within-found-requires-clause-begin g c = c.requires.begin

pub light_within-found-requires-clause-none : goal.light_within-found-requires-clause-none
light_within-found-requires-clause-none g c = c.requires.none

pub overflow_add-first-then-next-wanted-2 : goal.overflow_add-first-then-next-wanted-2
overflow_add-first-then-next-wanted-2 g c =
    let all = groups_there g.T.Ranked.weight c.args.blocks.now c.args.groups.now c.requires.grouped.known in
    omega (arith, all, c.requires.number, c.requires.grouped.short)

pub least_of-least-requires : goal.least_of-least-requires
least_of-least-requires g c =
    let all = groups_there g.T.Ranked.weight c.args.blocks.now c.args.groups.now c.requires.grouped.known in
    omega (arith, all, c.requires.number, ap length c.light_within-found.ensures.same)

pub bounds-groups-number : goal.bounds-groups-number
bounds-groups-number g c = c.requires.number

pub returns-then-next-wanted-2-clause-place : goal.returns-then-next-wanted-2-clause-place
returns-then-next-wanted-2-clause-place g c = c.light_within-found.ensures.place

pub returns-then-next-wanted-2-clause-same : goal.returns-then-next-wanted-2-clause-same
returns-then-next-wanted-2-clause-same g c = c.light_within-found.ensures.same

pub returns-then-next-wanted-2-clause-len : goal.returns-then-next-wanted-2-clause-len
returns-then-next-wanted-2-clause-len g c = length-set c.args.groups.now c.args.number _

pub returns-else-is_none-clause-place : goal.returns-else-is_none-clause-place
returns-else-is_none-clause-place g c = c.light_within-found.ensures.place

pub returns-else-is_none-clause-same : goal.returns-else-is_none-clause-same
returns-else-is_none-clause-same g c = c.light_within-found.ensures.same

pub returns-else-is_none-clause-groups : goal.returns-else-is_none-clause-groups
returns-else-is_none-clause-groups g c = c.requires.grouped.known
