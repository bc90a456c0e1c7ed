use Rattle.std.proofs.Common.{rules}
use Rattle.metrics.proofs.Falls.{falls_merged, falls_sum}
use Rattle.metrics.proofs.Merges.{merge_weaker}
use Rattle.metrics.proofs.days.merge_falls.Goals as goal

pub returns-clause-list : goal.returns-clause-list
returns-clause-list g c = falls_merged c.args.left.now c.args.right.now c.unwrap.result.items c.requires.left c.requires.right (merge_weaker (λ a b s h. search rules) (rw c.unwrap.ensures at c.in_ok-falls.ensures.some))

pub returns-clause-sums : goal.returns-clause-sums
returns-clause-sums g c = falls_sum c.args.left.now c.args.right.now c.unwrap.result.items (merge_weaker (λ a b s h. search rules) (rw c.unwrap.ensures at c.in_ok-falls.ensures.some))
