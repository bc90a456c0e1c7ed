use Rattle.std.proofs.Common.{drop, ap, ◌∙◌}
use Rattle.waiting_places.specs.Places.{PlacesView, waiting}
use Rattle.waiting_places.proofs.Heads.{from_head}
use Rattle.waiting_places.proofs.Standing.{all_behind}
use Rattle.waiting_places.proofs.places.Places.iter.Goals as goal

pub returns : goal.returns
returns g c =
    let inside = c.self.inside in
    c.at.ensures
    ∙ ap waiting (all_behind c.deref.result.now inside.head)
    ∙ ap (λ xs. waiting (drop inside.head xs)) c.deref.ensures.value
    ∙ from_head inside.places.items inside.head c.self.invariant.first.ahead
    ∙ ap (λ (v : PlacesView _). waiting v.places) c.self.view_is
