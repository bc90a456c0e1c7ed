use Rattle.chunks.proofs.Grouped.{edited_is, sized_group, sized_is}
use Rattle.chunks.proofs.edits.with_elements.Goals as goal

pub with_chunk-requires-clause-sized : goal.with_chunk-requires-clause-sized
with_chunk-requires-clause-sized g c = sized_group c.args.groups.now c.args.place.group c.elements.result.now c.requires.sized.chunks c.elements.ensures.value

pub returns-clause-flat : goal.returns-clause-flat
returns-clause-flat g c =
    edited_is c.args.groups.now c.in_ok-with_chunk.field-0.items c.args.place.group c.args.place.chunk c.elements.result.now c.in_ok-chunks.chunks.items c.args.items.items
    c.requires.spot.chunk c.requires.spot.there c.elements.ensures.value c.in_ok-chunks.ensures.flat c.in_ok-with_chunk.ensures.flat

pub returns-clause-sized : goal.returns-clause-sized
returns-clause-sized g c =
    record {
      groups = c.in_ok-with_chunk.ensures.sized;
      chunks = sized_is c.args.groups.now c.in_ok-with_chunk.field-0.items c.args.place.group c.in_ok-chunks.chunks.items c.requires.sized.chunks c.in_ok-chunks.ensures.sized c.in_ok-with_chunk.ensures.flat;
    }
