use Rattle.std.proofs.Common.{ap, subst, List}
use mathlib.Core.List.{IsPrefix}
use Rattle.chronicle.specs.Events.{Happened}
use Rattle.chronicle.proofs.Fronts.{begins_test}
use Rattle.chronicle.proofs.front.Front.is_shorter.Goals as goal

pub returns : goal.returns
returns g c =
    let both = c.learn.new.self.log in
    let this : IsPrefix c.self.inside.seen.log both = subst (λ (l : List Happened). IsPrefix l both) (ap (λ s. s.log) c.again-both.ensures) c.learn.ensures.2 in
    rw (← c.self.view_is, ← c.other.view_is) (begins_test c.self.inside.seen.log c.other.inside.seen.log both c.self.inside.events c.other.inside.events c.self.invariant.0 c.other.invariant.0 this c.learn.ensures.3)
