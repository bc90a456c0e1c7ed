use Rattle.std.proofs.Common.{◌≡◌, ℕ, List, rules, subst}
use Rattle.std.proofs.lemmas.List.Sorted.{IsNonDecreasingBy-from_sort_by_key, answers_always}
use Rattle.frames.specs.declared.stretch.Stretch.{Stretch}
use Rattle.frames.specs.Frames.{by_key, standing_at}
use Rattle.frames.proofs.Keys.{of_item, sorted_at}
use Rattle.frames.proofs.frame.Frame.sort_by_key.Goals as goal

pub returns-clause-ok : goal.returns-clause-ok
returns-clause-ok g c =
    let key = g.T.Keyed.key in
    let sorted = c.sort_by_key.new.self.items in
    subst (λ (ss : List (Stretch g.row.T.Denot)). (place : ℕ) → standing_at place sorted ≡ by_key key (standing_at place ss)) c.self.view_is
    (sorted_at key c.self.inside.stretches.items sorted
    (IsNonDecreasingBy-from_sort_by_key (of_item key) sorted c.in_ok-sort_by_key.ensures.sorted (λ a r q k. search rules))
    (c.in_ok-sort_by_key.ensures.stable (of_item key) (answers_always _ _ _ (λ f a r h k. search rules))))
