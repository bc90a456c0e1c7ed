use Rattle.std.proofs.Common.{List, map, subst, ◌∙◌}
use Rattle.std.specs.List.Sorted.{IsPermutation}
use Rattle.std.proofs.lemmas.List.{take_all}
use Rattle.std.proofs.lemmas.List.Sorted.{IsPermutation-map}
use Rattle.scenarios.specs.declared.placed.Placed.{Placed}
use denote.Ref.{Bor}
use Rattle.metrics.proofs.users.by_user.Goals as goal

pub returns : goal.returns
returns g c =
    let P : List Placed → Type 0 = λ ps. IsPermutation ps (map (λ (j : Bor Placed). j.now) c.sort_by_key.new.self.items) in
    subst P (c.loop-each.invariant ∙ take_all c.loop-each.each-index c.args.placed.now c.loop-each-test.false) (IsPermutation-map (λ (j : Bor Placed). j.now) c.loop-each.jobs.items c.sort_by_key.new.self.items c.in_ok-sort_by_key.ensures.permutation)
