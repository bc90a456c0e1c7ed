use Rattle.std.proofs.Common.{◌≡◌, ◌-◌, List, length, set, None, ap, subst, sym, vec_capacity, ◌∙◌}
use Rattle.std.proofs.lemmas.List.{with_items_is}
use Rattle.std.specs.List.{remove}
use Rattle.waiting_places.specs.Bounds.{FrontierView}
use Rattle.waiting_places.specs.Places.{IsPlaces, PlacesView, rank, waiting}
use Rattle.waiting_places.proofs.Below.{within}
use Rattle.waiting_places.proofs.Grown.{leaves, place_fits, somebody}
use Rattle.waiting_places.proofs.Heads.{none_ahead, within_set}
use Rattle.waiting_places.proofs.Standing.{one_leaves, seen}
use Rattle.waiting_places.proofs.places.Places.take.Goals as goal

pub overflow_sub-self : goal.overflow_sub-self
overflow_sub-self g c =
    let inside = c.self.inside in
    let at = seen _ _ c.args.place c.in_ok-item.field-0.now c.self.view_is c.in_ok-item.ensures in
    somebody g.T.Waits.size g.T.Waits.estimate inside.places.items inside.nodes.items inside.len inside.head _ _ c.self.invariant c.args.place c.in_ok-item.field-0.now at

pub head_from-self-inside-requires-clause-within : goal.head_from-self-inside-requires-clause-within
head_from-self-inside-requires-clause-within g c = rw c.as_slice.ensures.value (within_set c.self.inside.places.items c.self.inside.head c.self.invariant.first c.args.place)

pub head_from-self-inside-requires-clause-ahead : goal.head_from-self-inside-requires-clause-ahead
head_from-self-inside-requires-clause-ahead g c = rw c.as_slice.ensures.value (none_ahead c.self.inside.places.items c.self.inside.head c.self.invariant.first c.args.place)

pub invariant_of-self : goal.invariant_of-self
invariant_of-self g c =
    let inside = c.self.inside in
    let at = seen _ _ c.args.place c.in_ok-item.field-0.now c.self.view_is c.in_ok-item.ensures in
    let outcome = rw c.deref_mut.ensures.value at c.outdate_leaf.ensures in
    let places = set inside.places.items c.args.place None in
    let long : length c.outdate_leaf.new.nodes ≡ inside.nodes.len = outcome.len ∙ sym inside.nodes.ok.0 in
    subst (λ (nodes : List FrontierView). IsPlaces g.T.Waits.size g.T.Waits.estimate places nodes (inside.len - 1) c.head_from-self-inside.result (vec_capacity inside.places) inside.refused) (sym (with_items_is inside.nodes c.outdate_leaf.new.nodes long))
    (leaves g.T.Waits.size g.T.Waits.estimate inside.places.items inside.nodes.items inside.len inside.head _ _ c.self.invariant c.args.place c.in_ok-item.field-0.now at c.head_from-self-inside.result (rw c.as_slice.ensures.value at c.head_from-self-inside.ensures) c.outdate_leaf.new.nodes outcome.len outcome.kept)

pub returns-clause-waiting : goal.returns-clause-waiting
returns-clause-waiting g c =
    let inside = c.self.inside in
    let at = seen _ _ c.args.place c.in_ok-item.field-0.now c.self.view_is c.in_ok-item.ensures in
    let there = within g.T.Waits.size g.T.Waits.estimate inside.places.items c.args.place c.in_ok-item.field-0.now at in
    one_leaves inside.places.items c.args.place c.in_ok-item.field-0.now there at ∙ ap (λ (v : PlacesView _). remove (waiting v.places) (rank v.places c.args.place)) c.self.view_is

pub returns-clause-few : goal.returns-clause-few
returns-clause-few g c =
    let inside = c.self.inside in
    let at = seen _ _ c.args.place c.in_ok-item.field-0.now c.self.view_is c.in_ok-item.ensures in
    place_fits g.T.Waits.size g.T.Waits.estimate inside.places.items inside.nodes.items inside.len inside.head _ _ c.self.invariant c.args.place c.in_ok-item.field-0.now at
