use Rattle.std.proofs.Common.{◌+◌, length, refl, subst, sym, ◌∙◌}
use Rattle.chunks.specs.Chunks.{AreSized}
use Rattle.chunks.proofs.Changes.{sized-drop}
use Rattle.chunks.proofs.Lists.{rest_at}
use Rattle.chunks.proofs.row_rest.RowRest.new.Goals as goal

pub row_rest_of-requires : goal.row_rest_of-requires
row_rest_of-requires g c = subst AreSized (sym c.after.ensures) (sized-drop (c.args.chunk + 1) c.args.row.now c.requires.sized)

pub returns : goal.returns
returns g c =
    c.row_rest_of.ensures
    ∙ rest_at c.args.chunk c.args.at (length c.elements-items.result.now) c.args.row.now c.after.result.now c.elements-items.result.now c.elements-items.ensures.value c.requires.within refl c.after.ensures
