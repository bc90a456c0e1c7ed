use Rattle.std.proofs.Common.{rules}
use Rattle.std.proofs.lemmas.List.Sorted.{answers_always}
use Rattle.job_table.proofs.InOrder.{rising-is}
use Rattle.job_table.proofs.Sorted.{key, sorted-is}
use Rattle.job_table.proofs.arranging.arrange.Goals as goal

pub returns-then-are_in_order : goal.returns-then-are_in_order
returns-then-are_in_order g c = rising-is c.args.entries.now.items c.args.pairs.now c.requires.log c.requires.pairs (c.are_in_order.ensures.0 c.if-are_in_order.true)

pub returns : goal.returns
returns g c = sorted-is _ _ c.requires.log c.sort_by_key.ensures.permutation (c.in_ok-sort_by_key.ensures.sorted key (answers_always _ _ _ (λ f a r h k. search rules)))
