use Rattle.std.proofs.Common.{◌≡◌, ◌+◌, ◌∷◌, [], MatchOption, None, ap, subst, sym, ◌∙◌}
use Rattle.std.proofs.lemmas.List.{get_or_default}
use Rattle.waiting_places.specs.Places.{waiting}
use Rattle.waiting_places.proofs.Standing.{all_behind, first_waits, nobody}
use Rattle.waiting_places.proofs.waiting.split.Goals as goal

pub returns-in_err-place : goal.returns-in_err-place
returns-in_err-place g c =
    subst (λ r. MatchOption r (waiting c.args.places.now ≡ []) (λ found. waiting c.args.places.now ≡ found.0.now ∷ waiting found.1.now)) (sym c.from_residual.ensures) (nobody c.args.places.now c.in_err-place.ensures)

pub returns : goal.returns
returns g c =
    let found = c.in_ok-place.ensures in
    let there = found.1 in
    let at = get_or_default c.args.places.now c.in_ok-place.place None c.index-places-place.result there ∙ sym c.index-places-place.is ∙ c.in-Some.is in
    first_waits c.args.places.now c.in_ok-place.place c.in-Some.item found at ∙ ap (λ rest. c.in-Some.item ∷ waiting rest) (sym (all_behind c.args.places.now (c.in_ok-place.place + 1)))
