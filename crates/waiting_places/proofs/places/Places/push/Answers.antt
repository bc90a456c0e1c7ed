use Rattle.std.proofs.Common.{◌≡◌, ◌+◌, ◌-◌, ◌≤◌, List, [], ◌∷◌, ◌++◌, length, take, Some, ap, arith, rules, subst, sym, vec_capacity, ◌∙◌}
use Rattle.std.proofs.lemmas.List.{length-append, with_items_is}
use Rattle.std.proofs.Math.Seq.{take-append_seam}
use Rattle.waiting_places.specs.Bounds.{FrontierView}
use Rattle.waiting_places.specs.Places.{IsPlaces, PlacesView}
use Rattle.waiting_places.proofs.Grown.{comes, count_fits}
use Rattle.waiting_places.proofs.places.Places.push.Goals as goal

pub overflow_add-self : goal.overflow_add-self
overflow_add-self g c =
    let inside = c.self.inside in
    let fits = count_fits g.T.Waits.size g.T.Waits.estimate inside.places.items inside.nodes.items inside.len inside.head _ _ c.self.invariant in
    omega (arith, fits)

before : {X : Type 0} (places more : List X) (item : X) → more ≡ places ++ item ∷ [] → take (length more - 1) more ≡ places
before places more item e =
    let shorter : length more - 1 ≡ length places = omega (arith, ap length e, length-append places (item ∷ [])) in
    ap (λ n. take n more) shorter ∙ ap (take (length places)) e ∙ take-append_seam places (item ∷ [])

pub cover-requires : goal.cover-requires
cover-requires g c =
    let inside = c.self.inside in
    let all = before inside.places.items c.push.new.self.items (Some c.args.item) c.in-Ok.ensures.items in
    let longer = ap length c.in-Ok.ensures.items ∙ length-append inside.places.items (Some c.args.item ∷ []) in
    let spare = ap (λ (v : PlacesView _). v.spare) c.self.view_is in
    let capacity = c.requires in
    rw (c.deref_mut.ensures.value, c.as_slice.ensures.value)
    (record {
      some = omega (arith, longer);
      tree = λ some. rw all (c.self.invariant.tree some);
      capacity = λ some. let many = (c.self.invariant.tree some).many in omega (arith, longer, spare, capacity, many);
    })

pub invariant_of-self : goal.invariant_of-self
invariant_of-self g c =
    let inside = c.self.inside in
    let outcome = rw (c.deref_mut.ensures.value, c.as_slice.ensures.value) at c.cover.ensures in
    let long : length c.cover.new.nodes ≡ inside.nodes.len = outcome.len ∙ sym inside.nodes.ok.0 in
    let spare = ap (λ (v : PlacesView _). v.spare) c.self.view_is in
    let capacity = c.requires in
    let fit : length c.push.new.self.items ≤ vec_capacity c.push.new.self = search rules in
    subst (λ (nodes : List FrontierView). IsPlaces g.T.Waits.size g.T.Waits.estimate c.push.new.self.items nodes (inside.len + 1) inside.head (vec_capacity c.push.new.self) inside.refused) (sym (with_items_is inside.nodes c.cover.new.nodes long))
    (comes g.T.Waits.size g.T.Waits.estimate inside.places.items inside.nodes.items inside.len inside.head (vec_capacity inside.places) inside.refused c.self.invariant c.push.new.self.items c.cover.new.nodes c.args.item (vec_capacity c.push.new.self) c.in-Ok.ensures.items outcome.len outcome.tree (omega (arith, spare, capacity)) fit)
