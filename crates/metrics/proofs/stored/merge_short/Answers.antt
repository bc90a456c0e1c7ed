use Rattle.std.proofs.Common.{map, rules}
use Rattle.std.proofs.lemmas.Option.{IfSome_then}
use Rattle.std.proofs.lemmas.Result.{IfOk-weaker}
use Rattle.metrics.specs.Stored.{long_of}
use Rattle.metrics.proofs.Merges.{merge_weaker}
use Rattle.metrics.proofs.ShortLists.{long_merge}
use Rattle.metrics.proofs.UserLists.{users_merged, users_sum}
use Rattle.metrics.proofs.stored.merge_short.Goals as goal

pub returns-clause-list : goal.returns-clause-list
returns-clause-list g c = IfOk-weaker c.merge.result _ _ (λ merged some. IfSome_then merged some (λ users m. users_merged (map long_of c.args.left.now) (map long_of c.args.right.now) (map long_of users.items) c.requires.left c.requires.right (long_merge (merge_weaker (λ a b s h. search rules) m)))) c.merge.ensures.some

pub returns-clause-sums : goal.returns-clause-sums
returns-clause-sums g c = IfOk-weaker c.merge.result _ _ (λ merged some. IfSome_then merged some (λ users m. users_sum (map long_of c.args.left.now) (map long_of c.args.right.now) (map long_of users.items) (long_merge (merge_weaker (λ a b s h. search rules) m)))) c.merge.ensures.some
