use Rattle.std.proofs.Common.{rules}
use Rattle.std.proofs.lemmas.List.Sorted.{answers_always}
use Rattle.job_table.specs.Table.{pair_before}
use Rattle.job_table.proofs.InOrder.{pairs-rise}
use Rattle.job_table.proofs.arranging.are_in_order.Goals as goal

pub returns : goal.returns
returns c = pairs-rise _ _ (c.is_sorted_by.ensures.cases pair_before (answers_always _ _ _ (λ f a r h k. search rules)))
