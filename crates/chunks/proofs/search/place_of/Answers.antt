use Rattle.std.proofs.Common.{◌≤◌, length, subst, sym}
use Rattle.std.specs.List.Sorted.{IsPartitionedBy}
use Rattle.chunks.specs.Chunks.{stands}
use Rattle.chunks.proofs.Places.{parted-at}
use Rattle.chunks.proofs.Grouped.{found_within, group_inside, group_place, group_there, parted_group, place_there, sized_group}
use Rattle.chunks.proofs.search.place_of.Goals as goal

pub chunk_before-chunk-requires-clause-sized : goal.chunk_before-chunk-requires-clause-sized
chunk_before-chunk-requires-clause-sized g c = sized_group c.args.groups.now c.group_before-group.result c.elements-chunks.result.now c.requires.sized.chunks c.elements-chunks.ensures.value

pub chunk_before-chunk-requires-clause-parted : goal.chunk_before-chunk-requires-clause-parted
chunk_before-chunk-requires-clause-parted g c =
    parted_group (stands g.T.Keyed.major g.T.Keyed.minor c.args.major c.args.minor) c.args.groups.now c.group_before-group.result c.elements-chunks.result.now c.requires.parted c.elements-chunks.ensures.value

pub elements-requires : goal.elements-requires
elements-requires g c = sized_group c.args.groups.now c.group_before-group.result c.elements-chunks.result.now c.requires.sized.chunks c.elements-chunks.ensures.value

pub before-at-requires : goal.before-at-requires
before-at-requires g c =
    let test = stands g.T.Keyed.major g.T.Keyed.minor c.args.major c.args.minor in
    let parted = parted_group test c.args.groups.now c.group_before-group.result c.elements-chunks.result.now c.requires.parted c.elements-chunks.ensures.value in
    subst (IsPartitionedBy test) (sym c.elements.ensures.value) (parted-at test c.chunk_before-chunk.result c.elements-chunks.result.now parted)

pub returns-clause-spot : goal.returns-clause-spot
returns-clause-spot g c =
    let test = stands g.T.Keyed.major g.T.Keyed.minor c.args.major c.args.minor in
    record {
      group = c.group_before-group.ensures.within;
      chunk = subst (λ chunks. c.chunk_before-chunk.result ≤ length chunks) c.elements-chunks.ensures.value c.chunk_before-chunk.ensures.within;
      there = group_there test c.args.groups.now c.group_before-group.result c.chunk_before-chunk.result c.before-at.result c.elements-chunks.result.now c.elements.result.now c.requires.sized.groups c.requires.sized.chunks
          c.group_before-group.ensures.place c.elements-chunks.ensures.value c.chunk_before-chunk.ensures.place;
    }

pub returns-clause-within : goal.returns-clause-within
returns-clause-within g c =
    let test = stands g.T.Keyed.major g.T.Keyed.minor c.args.major c.args.minor in
    found_within test c.args.groups.now c.group_before-group.result c.chunk_before-chunk.result c.before-at.result c.elements-chunks.result.now c.elements.result.now c.requires.sized.groups c.requires.sized.chunks
    c.group_before-group.ensures.place c.elements-chunks.ensures.value c.chunk_before-chunk.ensures.place c.elements.ensures.value c.before-at.ensures.within

pub returns-clause-place : goal.returns-clause-place
returns-clause-place g c =
    let test = stands g.T.Keyed.major g.T.Keyed.minor c.args.major c.args.minor in
    group_place test c.args.groups.now c.group_before-group.result c.chunk_before-chunk.result c.before-at.result c.elements-chunks.result.now c.elements.result.now c.requires.sized.groups c.requires.sized.chunks
    c.group_before-group.ensures.place c.elements-chunks.ensures.value c.chunk_before-chunk.ensures.place c.requires.parted c.elements.ensures.value c.before-at.ensures.place

pub returns-clause-inside : goal.returns-clause-inside
returns-clause-inside g c =
    let test = stands g.T.Keyed.major g.T.Keyed.minor c.args.major c.args.minor in
    group_inside test c.args.groups.now c.group_before-group.result c.chunk_before-chunk.result c.before-at.result c.elements-chunks.result.now c.elements.result.now c.requires.sized.groups c.requires.sized.chunks
    c.group_before-group.ensures.place c.elements-chunks.ensures.value c.chunk_before-chunk.ensures.place c.requires.parted c.elements.ensures.value c.before-at.ensures.place

pub returns-clause-there : goal.returns-clause-there
returns-clause-there g c =
    let test = stands g.T.Keyed.major g.T.Keyed.minor c.args.major c.args.minor in
    place_there test c.args.groups.now c.group_before-group.result c.chunk_before-chunk.result c.before-at.result c.elements-chunks.result.now c.elements.result.now c.requires.sized.groups c.requires.sized.chunks
    c.group_before-group.ensures.place c.elements-chunks.ensures.value c.chunk_before-chunk.ensures.place c.requires.parted c.elements.ensures.value c.before-at.ensures.place
