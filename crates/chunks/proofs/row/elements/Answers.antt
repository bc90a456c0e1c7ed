use Rattle.std.proofs.Common.{◌≡◌, get_or, [], ◌∙◌}
use Rattle.std.proofs.lemmas.List.{get_or_default}
use Rattle.chunks.proofs.Changes.{sized-at}
use Rattle.chunks.proofs.row.elements.Goals as goal

pub returns-then-chunk-row-clause-most : goal.returns-then-chunk-row-clause-most
returns-then-chunk-row-clause-most g c =
    let row = c.args.row.now in
    let same : c.as_slice.result.now ≡ get_or row c.args.chunk [] = c.as_slice.ensures ∙ c.index-row-chunk.is ∙ get_or_default row c.args.chunk c.index-row-chunk.result [] c.if-chunk-row.true in
    rw same (sized-at c.args.chunk row c.requires)
