use Rattle.std.proofs.Common.{subst, sym}
use Rattle.blocks.specs.Rows.{AreFilled}
use Rattle.blocks.proofs.Changes.{filled-drop, filled-take}
use Rattle.blocks.proofs.sorted.Blocks.iter_from.Goals as goal

pub of-requires : goal.of-requires
of-requires g c =
    let filled : AreFilled c.blocks-2.result.now = subst AreFilled (sym c.blocks-2.ensures.blocks) c.blocks-2.ensures.filled in
    filled-take _ _ (filled-drop _ c.blocks-2.result.now filled)
