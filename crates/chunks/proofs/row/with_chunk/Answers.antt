use Rattle.std.proofs.Common.{◌+◌, take, drop}
use Rattle.chunks.proofs.Changes.{around_is, flat_parts, sized_parts}
use Rattle.chunks.proofs.row.with_chunk.Goals as goal

pub returns-clause-flat : goal.returns-clause-flat
returns-clause-flat g c =
    let row = c.args.row.now in
    flat_parts c.in_ok-joined.field-0.items (take c.args.chunk row) c.in_ok-pieces.pieces.items (drop (c.args.chunk + 1) row) c.args.items.items
    (around_is c.in_ok-joined.field-0.items (take c.args.chunk row) c.as_slice.result.now c.after.result.now c.in_ok-pieces.pieces.items (drop (c.args.chunk + 1) row) c.in_ok-joined.ensures c.as_slice.ensures.value c.after.ensures)
    c.in_ok-pieces.ensures.flat

pub returns-clause-sized : goal.returns-clause-sized
returns-clause-sized g c =
    let row = c.args.row.now in
    sized_parts c.in_ok-joined.field-0.items row c.in_ok-pieces.pieces.items c.args.chunk (c.args.chunk + 1)
    (around_is c.in_ok-joined.field-0.items (take c.args.chunk row) c.as_slice.result.now c.after.result.now c.in_ok-pieces.pieces.items (drop (c.args.chunk + 1) row) c.in_ok-joined.ensures c.as_slice.ensures.value c.after.ensures)
    c.requires.sized c.in_ok-pieces.ensures.sized
