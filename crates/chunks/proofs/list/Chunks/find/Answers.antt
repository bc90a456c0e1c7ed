use Rattle.std.proofs.Common.{List, ap, ◌∙◌}
use Rattle.std.specs.Prelude.{slice_get}
use Rattle.chunks.specs.Chunks.{flat}
use Rattle.chunks.proofs.Lists.{slice_get-drop}
use Rattle.chunks.proofs.list.Chunks.find.Goals as goal

pub returns : goal.returns
returns g c = c.peek.ensures ∙ ap (λ (xs : List g.row.T.Denot). slice_get xs 0) c.rest.ensures ∙ slice_get-drop _ (flat c.args.self.now)
