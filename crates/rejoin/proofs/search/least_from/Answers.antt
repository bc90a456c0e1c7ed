use Rattle.std.proofs.Common.{rules, nat_lt}
use Rattle.std.proofs.lemmas.List.Sorted.{IsPartitionPoint-from_clause, IsPartitionedBy-ltb}
use Rattle.rejoin.proofs.Finding.{least-found, least-none}
use Rattle.rejoin.proofs.search.least_from.Goals as goal

pub returns-then-place-numbers : goal.returns-then-place-numbers
returns-then-place-numbers c =
    let ns = c.args.numbers.now in
    let parts = IsPartitionPoint-from_clause (λ n. nat_lt n c.args.bound) ns c.partition_point-place.result c.partition_point-place.ensures.partitioned (IsPartitionedBy-ltb (λ n. n) ns c.args.bound c.requires) (λ a r q k. search rules) in
    least-found ns c.args.bound c.partition_point-place.result 0 _ c.requires parts (search rules) (search rules)

pub returns : goal.returns
returns c =
    let ns = c.args.numbers.now in
    let parts = IsPartitionPoint-from_clause (λ n. nat_lt n c.args.bound) ns c.partition_point-place.result c.partition_point-place.ensures.partitioned (IsPartitionedBy-ltb (λ n. n) ns c.args.bound c.requires) (λ a r q k. search rules) in
    least-none ns c.args.bound c.partition_point-place.result parts (search rules)
