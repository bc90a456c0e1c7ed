use Rattle.std.proofs.Common.{rules, ◌≡◌, ◌∷◌, ◌+◌, map, drop, get_or, ◌∙◌, ap}
use Rattle.std.specs.Arc.{arc_value}
use Rattle.rejoin.proofs.Deciding.{segments-at}
use Rattle.rejoin.proofs.change.Change.segment.Goals as goal

pub returns-clause-here : goal.returns-clause-here
returns-clause-here g c =
    let seen : map arc_value c.self.inside.segments.now ≡ c.args.self.now.old = search rules in
    let same : get_or c.self.inside.segments.now c.args.at c.index-segments-at.result ≡ c.index-segments-at.result = search rules in
    segments-at arc_value c.self.inside.segments.now c.args.self.now.old c.args.at c.index-segments-at.result seen c.requires ∙ ap (λ x. arc_value x ∷ drop (c.args.at + 1) c.args.self.now.old) same
