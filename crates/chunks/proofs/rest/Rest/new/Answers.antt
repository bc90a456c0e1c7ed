use Rattle.std.proofs.Common.{◌≤◌, length, refl, rules, ◌∙◌}
use Rattle.chunks.specs.Groups.{chunk_number, chunks_in}
use Rattle.chunks.proofs.Lists.{rest_at}
use Rattle.chunks.proofs.Grouped.{next_is, next_within, rest_later, rest_sized, sized_later}
use Rattle.chunks.proofs.rest.Rest.new.Goals as goal

pub next_elements-items-requires : goal.next_elements-items-requires
next_elements-items-requires g c = rest_sized (chunks_in c.args.groups.now) _ c.new-later.result c.new-later.ensures c.requires.sized.chunks

pub offset_bounds-items-place : goal.offset_bounds-items-place
offset_bounds-items-place g c = next_within (chunks_in c.args.groups.now) _ c.new-later.result c.new-later.ensures c.args.place.at c.next_elements-items.result.now c.next_elements-items.ensures.value c.requires.within

pub slice_bounds-rest_of-count : goal.slice_bounds-rest_of-count
slice_bounds-rest_of-count g c = next_within (chunks_in c.args.groups.now) _ c.new-later.result c.new-later.ensures c.args.place.at c.next_elements-items.result.now c.next_elements-items.ensures.value c.requires.within

pub slice_bounds-rest_of-start : goal.slice_bounds-rest_of-start
slice_bounds-rest_of-start g c =
    let within : c.args.place.at ≤ length c.next_elements-items.result.now
    = next_within (chunks_in c.args.groups.now) _ c.new-later.result c.new-later.ensures c.args.place.at c.next_elements-items.result.now c.next_elements-items.ensures.value c.requires.within in
    search rules

pub rest_of-requires : goal.rest_of-requires
rest_of-requires g c = sized_later (chunks_in c.args.groups.now) _ c.new-later.result c.new-later.ensures c.next_elements-items.new.later c.requires.sized.chunks c.next_elements-items.ensures.later

pub returns : goal.returns
returns g c =
    let chunks = chunks_in c.args.groups.now in
    let chunk = chunk_number c.args.place.group c.args.place.chunk c.args.groups.now in
    let rest = c.new-later.result in
    let items = c.next_elements-items.result.now in
    c.rest_of.ensures
    ∙ rest_at chunk c.args.place.at (length items) chunks c.next_elements-items.new.later items (next_is chunks chunk rest c.new-later.ensures items c.next_elements-items.ensures.value) c.requires.within refl
    (rest_later chunks chunk rest c.new-later.ensures c.next_elements-items.new.later c.next_elements-items.ensures.later)
