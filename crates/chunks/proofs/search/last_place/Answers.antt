use Rattle.std.proofs.Common.{◌≤◌, ◌-◌, arith, length}
use Rattle.chunks.proofs.Grouped.{last_is, last_spot, some_in, sized_group}
use Rattle.chunks.proofs.search.last_place.Goals as goal

pub overflow_sub-chunk : goal.overflow_sub-chunk
overflow_sub-chunk g c = some_in c.args.groups.now (length c.args.groups.now - 1) c.elements-chunks.result.now c.requires.sized.groups (omega (arith, c.requires.some)) c.elements-chunks.ensures.value

pub elements-at-requires : goal.elements-at-requires
elements-at-requires g c = sized_group c.args.groups.now (length c.args.groups.now - 1) c.elements-chunks.result.now c.requires.sized.chunks c.elements-chunks.ensures.value

pub returns-clause-spot : goal.returns-clause-spot
returns-clause-spot g c =
    let last = length c.args.groups.now - 1 in
    let chunks = c.elements-chunks.result.now in
    let some : 1 ≤ length chunks = some_in c.args.groups.now last chunks c.requires.sized.groups (omega (arith, c.requires.some)) c.elements-chunks.ensures.value in
    last_spot c.args.groups.now last (length chunks - 1) chunks c.elements-chunks.ensures.value (omega (arith, c.requires.some)) (omega (arith, some))

pub returns-clause-last : goal.returns-clause-last
returns-clause-last g c =
    let last = length c.args.groups.now - 1 in
    let chunks = c.elements-chunks.result.now in
    let some : 1 ≤ length chunks = some_in c.args.groups.now last chunks c.requires.sized.groups (omega (arith, c.requires.some)) c.elements-chunks.ensures.value in
    last_is c.args.groups.now last (length chunks - 1) chunks c.elements-chunks.ensures.value (omega (arith, c.requires.some)) (omega (arith, some))
