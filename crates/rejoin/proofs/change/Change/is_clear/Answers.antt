use Rattle.std.proofs.Common.{rules, ◌≡◌, ◌+◌, ◌↔◌, IsTrue, List, ℕ, drop, subst}
use Rattle.std.specs.Arc.{arc_value}
use Rattle.rejoin.specs.Tested.{NoneWithin}
use Rattle.rejoin.specs.Rejoining.{IsClear}
use Rattle.rejoin.proofs.Deciding.{at-segment, clear-decides}
use Rattle.rejoin.proofs.change.Change.is_clear.Goals as goal

pub returns : goal.returns
returns g c s rest e =
    let change = c.args.self.now in
    let first : c.first-first.result ≡ (arc_value c.segment.result.now).first = search rules in
    let submits : c.as_slice.result.now ≡ change.submits = search rules in
    let law : IsTrue c.none_within.result ↔ NoneWithin change.submits c.first-first.result c.first.result =
    subst (λ (ts : List ℕ). IsTrue c.none_within.result ↔ NoneWithin ts c.first-first.result c.first.result) submits c.none_within.ensures in
    at-segment (λ a n. IsTrue c.none_within.result ↔ IsClear change.was change.is a n) (drop c.args.at change.old) (arc_value c.segment.result.now) s (drop (c.args.at + 1) change.old) rest c.first-first.result c.first.result c.segment.ensures.here e first c.first.ensures.first
    (clear-decides change c.segment.ensures.sound c.first-first.result c.first.result c.none_within.result law)
