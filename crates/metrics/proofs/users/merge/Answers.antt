use Rattle.std.proofs.Common.{rules}
use Rattle.metrics.proofs.Merges.{merge_weaker}
use Rattle.metrics.proofs.UserLists.{pair_fits, users_merged, users_sum}
use Rattle.metrics.proofs.users.merge.Goals as goal

pub merge-requires : goal.merge-requires
merge-requires g c = λ i d l j e m same. pair_fits c.args.left.now c.args.right.now i j d e l m same c.requires.fits

pub returns-clause-list : goal.returns-clause-list
returns-clause-list g c = users_merged c.args.left.now c.args.right.now c.unwrap.result.items c.requires.left c.requires.right (merge_weaker (λ a b s h. search rules) (rw c.unwrap.ensures at c.in_ok-users.ensures.some))

pub returns-clause-sums : goal.returns-clause-sums
returns-clause-sums g c = users_sum c.args.left.now c.args.right.now c.unwrap.result.items (merge_weaker (λ a b s h. search rules) (rw c.unwrap.ensures at c.in_ok-users.ensures.some))
