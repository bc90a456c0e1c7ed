use Rattle.std.proofs.Common.{ap, arith, ◌∙◌}
use Rattle.waiting_places.specs.Places.{PlacesView, waiting}
use Rattle.waiting_places.proofs.Grown.{count_fits}
use Rattle.waiting_places.proofs.Standing.{all_wait}
use Rattle.waiting_places.proofs.places.Places.reserve.Goals as goal

pub overflow_mul-self-inside : goal.overflow_mul-self-inside
overflow_mul-self-inside g c =
    let inside = c.self.inside in
    let fits = count_fits g.T.Waits.size g.T.Waits.estimate inside.places.items inside.nodes.items inside.len inside.head _ _ c.self.invariant in
    omega (arith, fits)

pub returns-clause-waiting : goal.returns-clause-waiting
returns-clause-waiting g c =
    ap (λ (v : PlacesView _). waiting v.places) c.drop.view_is
    ∙ ap waiting c.in_ok-closed.ensures.places
    ∙ all_wait (waiting c.as_slice.result.now)
    ∙ ap waiting c.as_slice.ensures.value
    ∙ ap (λ (v : PlacesView _). waiting v.places) c.self.view_is
