use Rattle.std.proofs.Common.{List, nat_le, rules, subst}
use Rattle.std.specs.List.Sorted.{IsNonDecreasingBy}
use Rattle.std.proofs.lemmas.List.Sorted.{IsNonDecreasingBy-from_sort, answers_always}
use Rattle.chunks.specs.declared.numbered.Numbered.{Numbered}
use Rattle.job_table.specs.Table.{number_in}
use Rattle.job_table.proofs.InOrder.{pairs-up}
use Rattle.job_table.proofs.index.sort_pairs.Goals as goal

pub returns-then-rising-clause-order : goal.returns-then-rising-clause-order
returns-then-rising-clause-order g c =
    subst (λ (xs : List Numbered). IsNonDecreasingBy number_in xs) c.as_slice.ensures.value
    (pairs-up _ _ (c.is_sorted_by-rising.ensures.cases (λ x y. nat_le (number_in x) (number_in y)) (answers_always _ _ _ (λ f a r h k. search rules))) c.if-rising.true)

pub returns-clause-order : goal.returns-clause-order
returns-clause-order g c = IsNonDecreasingBy-from_sort number_in _ (c.in_ok-sort_by_key.ensures.sorted number_in (answers_always _ _ _ (λ f a r h k. search rules)))
