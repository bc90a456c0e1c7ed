use Rattle.std.proofs.Common.{ℕ, ◌∷◌, [], Option, Some, None, set, ap, sym, ◌∙◌}
use Rattle.std.specs.Option.{option_or}
use Rattle.std.proofs.lemmas.List.{get_or_default}
use Rattle.easy_rule.specs.Simulation.{start_of}
use Rattle.checkpoints.specs.Starts.{KnownStarts, known_start}
use Rattle.checkpoints.proofs.Known.{apart-more, noted-here, noted-other, noted-places, placed-none, placed-some}
use Rattle.checkpoints.proofs.noting.Noting.note.Goals as goal

pub invariant_of-self-in_default : goal.invariant_of-self-in_default
invariant_of-self-in_default g c =
    let inside = c.self.inside in
    (c.self.invariant.0, apart-more inside.least inside.most inside.others.items c.push.new.self.items c.args.start c.self.invariant.1 (sym c.place_of.ensures ∙ c.in_default.is) c.in_ok-push.ensures.items)

pub returns-in_default : goal.returns-in_default
returns-in_default g c = λ n.
    let inside = c.self.inside in
    noted-other inside.least n inside.places.items inside.others.items c.push.new.self.items c.args.start (placed-none inside.least inside.most _ _ c.self.invariant.0 (sym c.place_of.ensures ∙ c.in_default.is)) c.in_ok-push.ensures.items
    ∙ ap (λ (k : KnownStarts). option_or (known_start k n) (start_of (c.args.start ∷ []) n)) c.self.view_is

pub returns : goal.returns
returns g c = λ n.
    let inside = c.self.inside in
    let place = c.in-Some.place in
    let made = c.reach.new.places.items in
    let at = placed-some inside.least inside.most _ c.args.start.number place (sym c.place_of.ensures ∙ c.in-Some.is) c.in_ok-reach.ensures.there in
    noted-here inside.least n place made _ inside.others.items c.args.start at (ap (set made place) (c.or.ensures ∙ ap (λ (o : Option ℕ). option_or o (Some c.args.start.at)) (c.index.ensures ∙ get_or_default made place _ None c.in_ok-reach.ensures.there)))
    ∙ ap (λ (o : Option ℕ). option_or o (start_of (c.args.start ∷ []) n)) (noted-places inside.least inside.most n _ inside.places.items made inside.others.items c.self.invariant.1 c.reach.ensures.within c.in_ok-reach.ensures.made)
    ∙ ap (λ (k : KnownStarts). option_or (known_start k n) (start_of (c.args.start ∷ []) n)) c.self.view_is
